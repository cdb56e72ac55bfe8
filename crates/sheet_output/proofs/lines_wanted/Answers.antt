-- The first line says how many, and its counts are within their ranges, so their sum does not wrap.
use native.Mathlib.Omega.{arith}
use Rattle.text_reader.proofs.Whole.{first_counts}
use Rattle.sheet_output.proofs.Prints.{wanted_refused, wanted_counted}
use Rattle.sheet_output.proofs.lines_wanted.Goals as goal

pub returns-in-Err : goal.returns-in-Err
returns-in-Err c = wanted_refused _ _ c.header.ensures.s_value c.in-Err.is

pub overflow_add-result : goal.overflow_add-result
overflow_add-result c = let n = first_counts _ _ c.header.ensures.s_value _ c.in-Ok.is in omega arith

pub overflow_add-result-in-Ok : goal.overflow_add-result-in-Ok
overflow_add-result-in-Ok c = let n = first_counts _ _ c.header.ensures.s_value _ c.in-Ok.is in omega arith

pub returns-in-Ok : goal.returns-in-Ok
returns-in-Ok c = wanted_counted _ _ c.header.ensures.s_value c.in-Ok.is
