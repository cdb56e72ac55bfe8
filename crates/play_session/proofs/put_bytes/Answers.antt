-- The bytes that have room are stored in one piece; past the end of the text nothing is.
use mathlib.Core.Path.{◌≡◌, sym, ap, ◌∙◌}
use mathlib.Core.Logic.{◌⊎◌, inl, inr}
use mathlib.Core.List.{List, ◌++◌, append_assoc}
use Prim.Native.Nat.{ℕ, min, ◌+◌, ◌-◌, ◌<◌, ◌≤◌}
use native.Mathlib.Omega.{arith}
use lib.ListN.{length, take, drop, take-append-drop}
use lib.Seq.{sets, sets-eq, length-sets, length-take-le, take_all, drop-drop}
use borrow.Author.Rules.{rules}
use borrow.Rule.Slice.PartMut.{put_mid}
use Rattle.lists.proofs.Laws.{lt_or_ge}
use Rattle.lists.proofs.Stored.{stored_past}
use Rattle.text_writer.proofs.Writing.{sets_append}
use Rattle.sheet_output.specs.Inputs.{text_space}
use Rattle.play_session.proofs.put_bytes.Goals as goal

module _ (text bytes : List ℕ) (from kept : ℕ) where
  abbrev piece : List ℕ
  piece = take kept bytes

  -- a piece that has room
  fitting : from + kept ≤ length text → kept ≤ length bytes → (k : ℕ) → k ≡ kept → put_mid from k text piece ≡ sets text from piece
  fitting h g k e =
      let size : length piece ≡ kept = length-take-le kept bytes g in
      let behind : from + k ≡ from + length piece = omega (arith, size, e) in
      ap (λ (r : List ℕ). take from text ++ (piece ++ r)) (drop-drop k from text ∙ ap (λ (m : ℕ). drop m text) behind)
      ∙ sym (append_assoc (take from text) piece (drop (from + length piece) text))
      ∙ sym (sets-eq piece text from (omega (arith, size, h)))

  -- the bytes behind it have none
  cut : from ≤ length text → kept ≡ min (length bytes) (length text - from) → sets text from piece ≡ sets text from bytes
  cut h e = split (lt_or_ge kept (length bytes))
    where
      split : (kept < length bytes) ⊎ (length bytes ≤ kept) → sets text from piece ≡ sets text from bytes
      split (inl g) =
          let size : length piece ≡ kept = length-take-le kept bytes (omega arith) in
          sym (stored_past (sets text from piece) (drop kept bytes) (from + length piece) (omega (arith, size, length-sets text from piece)))
          ∙ sym (sets_append piece text (drop kept bytes) from)
          ∙ ap (λ (l : List ℕ). sets text from l) (take-append-drop kept bytes)
      split (inr g) = ap (λ (l : List ℕ). sets text from l) (take_all kept bytes g)

  -- from the end on, or from further on, nothing is stored
  placed : (at : ℕ) → from ≡ min at (length text) → sets text from bytes ≡ sets text at bytes
  placed at e = split (lt_or_ge at (length text))
    where
      split : (at < length text) ⊎ (length text ≤ at) → sets text from bytes ≡ sets text at bytes
      split (inl h) = let same : from ≡ at = omega arith in rw same
      split (inr h) = stored_past text bytes from (omega arith) ∙ sym (stored_past text bytes at h)

pub returns : goal.returns
returns c =
    let text = c.args.text in
    let bytes = c.args.bytes.now in
    let from = c.min-from.result in
    let kept = c.min-kept.result in
    let size : length text ≡ text_space = search rules in
    let start : from ≡ min c.args.at (length text) = omega (arith, size, c.min-from.ensures) in
    let count : kept ≡ min (length bytes) (length text - from) = omega (arith, size, c.min-kept.ensures) in
    ap (λ (l : List ℕ). put_mid from (from + kept - from) text l) c.copy_from_slice.ensures.after
    ∙ fitting text bytes from kept (omega (arith, start, count)) (omega (arith, count)) (from + kept - from) (omega arith)
    ∙ cut text bytes from kept (omega (arith, start)) count
    ∙ placed text bytes from kept c.args.at start
