-- No refusal has the number 0; and what `?` gives where it passes a refusal on.
use mathlib.Core.Path.{◌≡◌, ap, ◌∙◌}
use mathlib.Core.Logic.{◌≢◌}
use native.Mathlib.Omega.{arith}
use Rattle.std.specs.Prelude.{Result, Err, IsErrAnd}
use Rattle.std.proofs.lemmas.Result.{err_from_is_err_and}
use Rattle.refusals.specs.declared.Refusal.{Refusal}
use Rattle.refusals.specs.declared.Refusal.TheVariants.{Malformed, OutOfRange, EdgeIsLoop, TerminalAtSource, Unbalanced, NotOnBoard, NoCycle, ShortBuffer, NotInPlay, AtSource, NotEntering, NotOpen, CarryOpen, NoFlow, NotSingular, NothingToUndo, NotFinished, NotLoaded, NoLetter, NothingKept}
use Rattle.refusals.specs.Refusals.{number}

pub refused : (r : Refusal) → number r ≢ 0
refused Malformed z = omega (arith, z)
refused OutOfRange z = omega (arith, z)
refused EdgeIsLoop z = omega (arith, z)
refused TerminalAtSource z = omega (arith, z)
refused Unbalanced z = omega (arith, z)
refused NotOnBoard z = omega (arith, z)
refused NoCycle z = omega (arith, z)
refused ShortBuffer z = omega (arith, z)
refused NotInPlay z = omega (arith, z)
refused AtSource z = omega (arith, z)
refused NotEntering z = omega (arith, z)
refused NotOpen z = omega (arith, z)
refused CarryOpen z = omega (arith, z)
refused NoFlow z = omega (arith, z)
refused NotSingular z = omega (arith, z)
refused NothingToUndo z = omega (arith, z)
refused NotFinished z = omega (arith, z)
refused NotLoaded z = omega (arith, z)
refused NoLetter z = omega (arith, z)
refused NothingKept z = omega (arith, z)

pub passed_on : {A : Type 0} (r : Result A Refusal) (e : Refusal) → IsErrAnd r (λ (y : Refusal). y ≡ e) → r ≡ Err e
passed_on r e h = let given = err_from_is_err_and r h in given.1 ∙ ap Err given.2
