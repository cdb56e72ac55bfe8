-- The number of the kind picks the call, in the code and in the definition.
use mathlib.Core.Path.{sym}
use Prim.Native.Nat.{◌<◌}
use native.Mathlib.Omega.{arith}
use lib.ListN.{get_or}
use Rattle.lists.specs.Choice.{pick}
use Rattle.move_list.specs.Codes.{finish_code, call_of}
use Rattle.move_list.proofs.Coded.{none_coded}
use Rattle.move_list.proofs.Call.from_numbers.Goals as goal

pub returns-in-0 : goal.returns-in-0
unfolding call_of pick
returns-in-0 c = λ steps. rw c.in-0.is

pub returns-in-1 : goal.returns-in-1
unfolding call_of pick
returns-in-1 c = λ steps. rw c.in-1.is

pub returns-in-2 : goal.returns-in-2
unfolding call_of pick
returns-in-2 c = λ steps. rw c.in-2.is

pub returns-in-3 : goal.returns-in-3
unfolding call_of pick
returns-in-3 c = λ steps. rw c.in-3.is

pub returns-in-4 : goal.returns-in-4
unfolding call_of pick
returns-in-4 c = λ steps. rw c.in-4.is

pub returns-in_default : goal.returns-in_default
returns-in_default c = λ steps. let past : finish_code < get_or c.args.code 0 0 = omega arith in sym (none_coded steps _ _ _ past)
