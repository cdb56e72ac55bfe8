-- Bytes served in parts. A piece takes a byte at least and no more than there are, up to its first line feed, and what stands behind those bytes changes
-- nothing for it. So the lines of a part of the bytes are served as they are in the whole, and a session that has been served a part goes on as
-- one that is served all of them.
use mathlib.Core.Path.{◌≡◌, refl, sym, ap, ◌∙◌}
use mathlib.Core.Bool.{true}
use mathlib.Core.List.{List, [], ◌∷◌}
use Prim.Native.Nat.{ℕ, zero, suc, ◌+◌, ◌-◌, ◌<◌, ◌≤◌}
use native.Mathlib.Nat.{add-zero}
use native.Mathlib.Omega.{arith}
use lib.Dec.{eqb}
use lib.ListN.{length, take, drop, length-take, length-drop}
use lib.Seq.{length-take-le, take_all, take-take, take-add, drop-drop, drop_at}
use borrow.Author.Tests.{ltb-true, lt-ltb}
use Rattle.lists.specs.Lists.{index_of}
use Rattle.lists.proofs.Laws.{Known, was_true, was_false, known, pick_yes, pick_no}
use Rattle.play_session.specs.Machine.{Session}
use Rattle.play_session.specs.Machine.{grown, line_ended, has_line, taken_of, fed_session}
use Rattle.descriptors.specs.Serving.{served_lines, served_over}

-- ---- how many bytes a piece takes

module _ (bytes : List ℕ) where
  taken_within : taken_of bytes ≤ length bytes
  unfolding taken_of
  taken_within = split (known (has_line bytes))
    where
      split : Known (has_line bytes) → taken_of bytes ≤ length bytes
      split (was_true e) = omega (arith, pick_yes _ (index_of 10 bytes + 1) (length bytes) e, ltb-true (index_of 10 bytes) (length bytes) e)
      split (was_false e) = omega (arith, pick_no _ (index_of 10 bytes + 1) (length bytes) e)

  pub taken_some : 0 < length bytes → 0 < taken_of bytes
  unfolding taken_of
  taken_some h = split (known (has_line bytes))
    where
      split : Known (has_line bytes) → 0 < taken_of bytes
      split (was_true e) = omega (arith, pick_yes _ (index_of 10 bytes + 1) (length bytes) e)
      split (was_false e) = omega (arith, pick_no _ (index_of 10 bytes + 1) (length bytes) e)

-- ---- what stands behind them

index_early : (m : ℕ) (l : List ℕ) → index_of 10 l < m → index_of 10 (take m l) ≡ index_of 10 l
unfolding index_of
index_early zero l h = absurd (omega arith)
index_early (suc m) [] h = refl
index_early (suc m) (c ∷ l) h = split (known (eqb c 10)) (index_early m l)
  where
    split : Known (eqb c 10) → (index_of 10 l < m → index_of 10 (take m l) ≡ index_of 10 l) → index_of 10 (take (suc m) (c ∷ l)) ≡ index_of 10 (c ∷ l)
    split (was_true e) ih = rw (e, index_of)
    split (was_false e) ih = let g : suc (index_of 10 l) < suc m = rw (e, index_of) at h in rw (e, index_of) (ap suc (ih (omega arith)))

module _ (s : Session) (m : ℕ) (bytes : List ℕ) (h : taken_of bytes ≤ m) where
  module _ (e : has_line bytes ≡ true) where
    early : index_of 10 bytes < m
    unfolding taken_of
    early = omega (arith, pick_yes _ (index_of 10 bytes + 1) (length bytes) e)

    same_index : index_of 10 (take m bytes) ≡ index_of 10 bytes
    same_index = index_early m bytes early

    same_line : has_line (take m bytes) ≡ true
    same_line =
        lt-ltb (index_of 10 (take m bytes)) (length (take m bytes))
        (omega (arith, early, same_index, length-take m bytes, ltb-true (index_of 10 bytes) (length bytes) e))

  taken_part : taken_of (take m bytes) ≡ taken_of bytes
  unfolding taken_of
  taken_part = split (known (has_line bytes))
    where
      split : Known (has_line bytes) → taken_of (take m bytes) ≡ taken_of bytes
      split (was_true e) = pick_yes _ _ _ (same_line e) ∙ ap (λ (k : ℕ). k + 1) (same_index e) ∙ sym (pick_yes _ _ _ e)
      split (was_false e) = ap taken_of (take_all m bytes (omega (arith, pick_no _ (index_of 10 bytes + 1) (length bytes) e)))

  fed_part : fed_session s (take m bytes) ≡ fed_session s bytes
  unfolding taken_of fed_session
  fed_part = split (known (has_line bytes))
    where
      split : Known (has_line bytes) → fed_session s (take m bytes) ≡ fed_session s bytes
      split (was_true e) =
          let line : take (index_of 10 (take m bytes)) (take m bytes) ≡ take (index_of 10 bytes) bytes =
          ap (λ (k : ℕ). take k (take m bytes)) (same_index e) ∙ take-take (index_of 10 bytes) m bytes (omega (arith, early e)) in
          pick_yes _ _ _ (same_line e) ∙ ap (λ (l : List ℕ). line_ended (grown s l)) line ∙ sym (pick_yes _ _ _ e)
      split (was_false e) =
          ap (λ (l : List ℕ). fed_session s l) (take_all m bytes (omega (arith, pick_no _ (index_of 10 bytes + 1) (length bytes) e)))

-- ---- one line after the other

-- as many rounds as there are bytes are enough
enough : (k m : ℕ) (s : Session) (bytes : List ℕ) → length bytes ≤ k → length bytes ≤ m → served_lines k s bytes ≡ served_lines m s bytes
unfolding served_lines
enough zero zero s bytes h g = refl
enough zero (suc m) s [] h g = refl
enough zero (suc m) s (c ∷ cs) h g = absurd (omega arith)
enough (suc k) zero s [] h g = refl
enough (suc k) zero s (c ∷ cs) h g = absurd (omega arith)
enough (suc k) (suc m) s [] h g = refl
enough (suc k) (suc m) s (c ∷ cs) h g =
    let rest = drop (taken_of (c ∷ cs)) (c ∷ cs) in
    let size = length-drop (taken_of (c ∷ cs)) (c ∷ cs) in
    let some = taken_some (c ∷ cs) (omega arith) in
    enough k m (fed_session s (c ∷ cs)) rest (omega (arith, size, some)) (omega (arith, size, some))

served_first : (s : Session) (bytes : List ℕ) → 0 < length bytes → served_over s bytes ≡ served_over (fed_session s bytes) (drop (taken_of bytes) bytes)
unfolding served_lines
served_first s [] h = absurd (omega arith)
served_first s (c ∷ cs) h =
    let rest = drop (taken_of (c ∷ cs)) (c ∷ cs) in
    let size = length-drop (taken_of (c ∷ cs)) (c ∷ cs) in
    let some = taken_some (c ∷ cs) h in
    enough (length cs) (length rest) (fed_session s (c ∷ cs)) rest (omega (arith, size, some)) (omega arith)

-- the first line, and j bytes behind it
served_next : (s : Session) (bytes : List ℕ) (j : ℕ) → 0 < length bytes
    → served_over s (take (taken_of bytes + j) bytes) ≡ served_over (fed_session s bytes) (take j (drop (taken_of bytes) bytes))
served_next s bytes j h =
    served_first s part some
    ∙ ap (λ (q : Session). served_over q (drop (taken_of part) part)) (fed_part s (t + j) bytes (omega arith))
    ∙ ap (λ (k : ℕ). served_over (fed_session s bytes) (drop k part)) (taken_part s (t + j) bytes (omega arith))
    ∙ ap (λ (l : List ℕ). served_over (fed_session s bytes) l) behind
  where
    t : ℕ
    t = taken_of bytes

    part : List ℕ
    part = take (t + j) bytes

    some : 0 < length part
    some = omega (arith, length-take (t + j) bytes, taken_some bytes h)

    behind : drop t part ≡ take j (drop t bytes)
    behind =
        ap (λ (l : List ℕ). drop t l) (take-add t j bytes)
        ∙ drop_at (take t bytes) (take j (drop t bytes)) t (length-take-le t bytes (taken_within bytes))

-- ---- a session served up to a place

-- it goes on as one that is served the bytes from the start
abbrev pub ServedOn : Session → List ℕ → Session → ℕ → Type 0
ServedOn s bytes current from = (j : ℕ) → served_over current (take j (drop from bytes)) ≡ served_over s (take (from + j) bytes)

module _ (s : Session) (bytes : List ℕ) where
  module _ (current : Session) (from : ℕ) (on : ServedOn s bytes current from) where
    served_fed : from < length bytes → ServedOn s bytes (fed_session current (drop from bytes)) (from + taken_of (drop from bytes))
    served_fed h j =
        let rest = drop from bytes in
        let t = taken_of rest in
        let behind : from + (t + j) ≡ from + t + j = omega arith in
        ap (λ (l : List ℕ). served_over (fed_session current rest) (take j l)) (sym (drop-drop t from bytes))
        ∙ sym (served_next current rest j (omega (arith, length-drop from bytes)))
        ∙ on (t + j)
        ∙ ap (λ (k : ℕ). served_over s (take k bytes)) behind

    -- the session was handed the bytes from the place on, and took some of them
    pub served_handed : from < length bytes → (next : Session) (taken : ℕ) → next ≡ fed_session current (take (length bytes - from) (drop from bytes))
        → taken ≡ taken_of (take (length bytes - from) (drop from bytes)) → (0 < taken) × (from + taken ≤ length bytes) × ServedOn s bytes next (from + taken)
    served_handed h next taken e q =
        let rest = drop from bytes in
        let size = length-drop from bytes in
        let all = take_all (length bytes - from) rest (omega (arith, size)) in
        let same : taken ≡ taken_of rest = q ∙ ap taken_of all in
        let fed : next ≡ fed_session current rest = e ∙ ap (λ (l : List ℕ). fed_session current l) all in
        let some = taken_some rest (omega (arith, size)) in
        (omega (arith, same, some), omega (arith, same, taken_within rest, size), rw (fed, same) (served_fed h))

    pub served_here : current ≡ served_over s (take from bytes)
    unfolding served_lines
    served_here = on 0 ∙ ap (λ (k : ℕ). served_over s (take k bytes)) (add-zero from)

    pub served_end : length bytes ≤ from → current ≡ served_over s bytes
    served_end h = served_here ∙ ap (λ (l : List ℕ). served_over s l) (take_all from bytes h)
