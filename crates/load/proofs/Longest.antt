-- No text that a load accepts is longer than `longest_text`: it is the text of a lawful network, and none of those is longer.
use mathlib.Core.Path.{◌≡◌, sym, ◌∙◌}
use mathlib.Core.List.{List}
use Prim.Native.Nat.{ℕ, ◌≤◌}
use lib.ListN.{length}
use Rattle.text.specs.Sizes.{longest_text}
use Rattle.text.specs.Results.{read_text}
use Rattle.text.proofs.Accepted.{accepted_text}
use Rattle.text.proofs.Lengths.{network_short}
use Rattle.load.specs.Load.{load_text}
use Rattle.load.proofs.Loads.{read_accepted, load_answer}

pub text_short : (text : List ℕ) → (load_text text).answer ≡ 0 → length text ≤ longest_text
text_short text h =
    let read = accepted_text text (read_text text).network (read_accepted text (sym (load_answer text) ∙ h)) in
    rw read.0 (network_short (read_text text).network read.1)
