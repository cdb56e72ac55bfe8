-- An answer is 0 where the call was not refused.
use mathlib.Core.Path.{◌≡◌, refl, sym}
use borrow.Author.Tests.{ne_eqb}
use lib.Dec.{eqb}
use Rattle.std.specs.Prelude.{Result, Ok, Err}
use Rattle.std.specs.Result.{is_ok}
use Rattle.refusals.specs.declared.Refusal.{Refusal}
use Rattle.refusals.specs.Refusals.{number, answer_of}
use Rattle.refusals.proofs.Laws.{refused}

pub answered : {A : Type 0} (r : Result A Refusal) → is_ok r ≡ eqb (answer_of r) 0
answered (Ok x) = refl
answered (Err r) = sym (ne_eqb (number r) 0 (refused r))
