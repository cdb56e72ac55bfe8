-- The parts of a board text: each is read back as what it prints, and nothing else is read as that.
-- A field is the digits before the first comma or line feed, so its text is found again, and only the decimal of a number is read as
-- that number. Lines and runs of lines follow part by part: each part ends where the next one starts.
use mathlib.Core.Path.{◌≡◌, refl, ◌∙◌}
use mathlib.Core.Bool.{Bool, true, false}
use mathlib.Core.List.{List, [], ◌∷◌, ◌++◌, append_assoc}
use Prim.Native.Nat.{ℕ, zero, suc, ◌<◌, ◌≤◌}
use native.Mathlib.Omega.{arith}
use native.Mathlib.Numerals.{add-one}
use lib.Dec.{leb, ltb, eqb}
use lib.ListN.{length, get_or, take, drop, length-append}
use lib.Seq.{split_at, take-append_seam, drop-append-add}
use borrow.Author.Tests.{lt-ltb, ltb-true, le-leb, leb-true, eq-eqb, eqb-true}
use Rattle.lists.specs.Choice.{pick, both}
use Rattle.lists.specs.Lists.{index_of}
use Rattle.lists.proofs.Laws.{Known, was_true, was_false, known, pick_yes, both_left, both_right, both_true}
use Rattle.std.specs.Prelude.{Option, Some, None}
use Rattle.decimal.specs.Decimal.{number_of, decimal}
use Rattle.text.specs.declared.Range.{Range}
use Rattle.text.specs.Text.{Read, refused, got, then, letter, ranged, field, end_byte, numbers, line, lines, head_ranges}
use Rattle.text.specs.Text.{edge_ranges, terminal_ranges, header, headed, nothing_follows, layout, numbers_text, line_text}
use Rattle.board.specs.declared.Network.{Network}
use Rattle.decimal.proofs.Laws.{number_decimal, number_canonical, index_decimal}

-- ---- one part after another

-- what was read of s stood at its start as this text, and these are the facts of it
pub record StoodAs (text : List ℕ) (Facts : Type 0) (s rest : List ℕ) : Type 0 where
  pub start : s ≡ text ++ rest
  pub facts : Facts

never : {A B : Type 0} {n : ℕ} {a : A} {s : List ℕ} → ◌≡◌ {A = Read A} (refused n) (got a s) → B
never e = let z : ◌≡◌ {A = ℕ} 0 1 = cc in absurd (omega arith)

-- what went through in two parts went through in each
pub parts : {A B C : Type 0} {b : B} {rest : List ℕ} (o : Read A) (f : A → List ℕ → Read B) → then o f ≡ got b rest
    → ((a : A) (s : List ℕ) → o ≡ got a s → f a s ≡ got b rest → C) → C
unfolding then
parts (refused n) f e k = never e
parts (got a s) f e k = k a s refl e

-- the same where the first part is itself of two
pub parts_in : {A B C D : Type 0} {c : C} {rest : List ℕ} (o : Read A) (f : A → List ℕ → Read B) (g : B → List ℕ → Read C)
    → then (then o f) g ≡ got c rest → ((a : A) (s : List ℕ) → o ≡ got a s → then (f a s) g ≡ got c rest → D) → D
unfolding then
parts_in (refused n) f g e k = never e
parts_in (got a s) f g e k = k a s refl e

pub after : {A B : Type 0} {o : Read A} {a : A} {s : List ℕ} (f : A → List ℕ → Read B) → o ≡ got a s → then o f ≡ f a s
unfolding then
after f e = rw e

pub after_in : {A B C : Type 0} {o : Read A} {a : A} {s : List ℕ} (f : A → List ℕ → Read B) (g : B → List ℕ → Read C) → o ≡ got a s
    → then (then o f) g ≡ then (f a s) g
unfolding then
after_in f g e = rw e

-- a choice that went through
pub record Picked {A : Type 0} (t : Bool) (o : Read A) (a : A) (rest : List ℕ) : Type 0 where
  pub test : t ≡ true
  pub chosen : o ≡ got a rest

pub picked : {A : Type 0} {a : A} {rest : List ℕ} (t : Bool) (o : Read A) (n : ℕ) → pick t o (refused n) ≡ got a rest → Picked t o a rest
unfolding pick
picked true o n e = record { test = refl; chosen = e }
picked false o n e = never e

-- ---- fields

-- the first b stands where the index says
found : (b : ℕ) (s : List ℕ) → index_of b s < length s → get_or s (index_of b s) 0 ≡ b
unfolding index_of
found b [] h = absurd (omega arith)
found b (x ∷ xs) h = go (known (eqb x b)) (found b xs)
  where
    go : Known (eqb x b) → (index_of b xs < length xs → get_or xs (index_of b xs) 0 ≡ b) → get_or (x ∷ xs) (index_of b (x ∷ xs)) 0 ≡ b
    go (was_true t) ih = rw (t, index_of) (eqb-true x b t)
    go (was_false t) ih =
        let less : suc (index_of b xs) < suc (length xs) = rw (t, index_of) at h in
        rw (t, index_of) (ih (omega arith))

pub record FieldText (r : Range) (e n : ℕ) (s rest : List ℕ) : Type 0 where
  pub text : s ≡ decimal n ++ (e ∷ rest)
  pub above : r.low ≤ n
  pub below : n ≤ r.high

pub record Ranged (r : Range) (o : Option ℕ) (t : List ℕ) (n : ℕ) (rest : List ℕ) : Type 0 where
  pub value : o ≡ Some n
  pub behind : t ≡ rest
  pub above : r.low ≤ n
  pub below : n ≤ r.high

in_range : {r : Range} {n : ℕ} {t rest : List ℕ} (o : Option ℕ) → ranged r o t ≡ got n rest → Ranged r o t n rest
unfolding ranged
in_range None e = never e
in_range {r} {n} {t} {rest} (Some m) e =
    let p = picked (both (leb r.low m) (leb m r.high)) (got m t) 2 e in
    let same : m ≡ n = cc in
    record {
      value = cc;
      behind = cc;
      above = rw same at (leb-true r.low m (both_left _ _ p.test));
      below = rw same at (leb-true m r.high (both_right _ _ p.test));
    }

pub field_of_text : (r : Range) (e n : ℕ) (rest : List ℕ) → e < 48 → r.low ≤ n → n ≤ r.high → n < 10000000
    → field r e (decimal n ++ (e ∷ rest)) ≡ got n rest
unfolding field
field_of_text r e n rest h low high small =
    let there : index_of e (decimal n ++ (e ∷ rest)) ≡ length (decimal n) = index_decimal e n rest h in
    let behind : drop (suc (length (decimal n))) (decimal n ++ (e ∷ rest)) ≡ rest = rw (← add-one, drop-append-add) in
    let fits : ltb (length (decimal n)) (length (decimal n ++ (e ∷ rest))) ≡ true =
    lt-ltb (length (decimal n)) (length (decimal n ++ (e ∷ rest))) (rw length-append (omega arith)) in
    rw (there, take-append_seam, behind, number_decimal n small)
    (pick_yes _ _ _ fits ∙ pick_yes _ _ _ (both_true _ _ (le-leb _ _ low) (le-leb _ _ high)))

pub field_only : (r : Range) (e n : ℕ) (s rest : List ℕ) → field r e s ≡ got n rest → FieldText r e n s rest
unfolding field
field_only r e n s rest h =
    let i : ℕ = index_of e s in
    let p = picked (ltb i (length s)) (ranged r (number_of (take i s)) (drop (suc i) s)) 1 h in
    let v = in_range (number_of (take i s)) p.chosen in
    let less : i < length s = ltb-true _ _ p.test in
    record {
      text = cc (split_at s i 0 less, found e s less, number_canonical (take i s) n v.value);
      above = v.above;
      below = v.below;
    }

-- ---- letters

pub letter_of_text : (x : ℕ) (rest : List ℕ) → letter x (x ∷ 44 ∷ rest) ≡ got x rest
unfolding letter
letter_of_text x rest = pick_yes _ _ _ (both_true _ _ (eq-eqb x x refl) refl)

pub letter_only : (x c : ℕ) (s rest : List ℕ) → letter x s ≡ got c rest → s ≡ x ∷ 44 ∷ rest
unfolding letter
letter_only x c s rest h = go s (picked _ _ 1 h)
  where
    go : (s : List ℕ) → Picked (both (eqb (get_or s 0 0) x) (eqb (get_or s 1 0) 44)) (got x (drop 2 s)) c rest → s ≡ x ∷ 44 ∷ rest
    go [] p = absurd (omega (arith, eqb-true 0 44 (both_right _ _ p.test)))
    go (a ∷ []) p = absurd (omega (arith, eqb-true 0 44 (both_right _ _ p.test)))
    go (a ∷ b ∷ t) p = cc (eqb-true a x (both_left _ _ p.test), eqb-true b 44 (both_right _ _ p.test), p.chosen)

-- ---- the numbers of a line

-- as many numbers as ranges, each in its own
abbrev pub InRanges : List Range → List ℕ → Type 0
InRanges [] [] = Unit {0}
InRanges [] (n ∷ ns) = ⊥
InRanges (r ∷ rs) [] = ⊥
InRanges (r ∷ rs) (n ∷ ns) = (r.low ≤ n) × (n ≤ r.high) × InRanges rs ns

-- ranges whose numbers a field has room for
abbrev pub Short : List Range → Type 0
Short [] = Unit {0}
Short (r ∷ rs) = (r.high < 10000000) × Short rs

same_end : (rs : List Range) (ns : List ℕ) → InRanges rs ns → end_byte rs ≡ end_byte ns
same_end [] [] w = refl
same_end [] (n ∷ ns) w = absurd w
same_end (r ∷ rs) [] w = absurd w
same_end (r ∷ rs) (n ∷ ns) w = refl

end_small : {A : Type 0} (xs : List A) → end_byte xs < 48
end_small [] = omega arith
end_small (x ∷ xs) = omega arith

pub numbers_of_text : (rs : List Range) (ns rest : List ℕ) → Short rs → InRanges rs ns → numbers rs (numbers_text ns ++ rest) ≡ got ns rest
unfolding numbers numbers_text
numbers_of_text [] [] rest short w = refl
numbers_of_text [] (n ∷ ns) rest short w = absurd w
numbers_of_text (r ∷ rs) [] rest short w = absurd w
numbers_of_text (r ∷ rs) (n ∷ ns) rest short w =
    let first = field_of_text r (end_byte rs) n (numbers_text ns ++ rest) (end_small rs) w.0 w.1 (omega arith) in
    rw (append_assoc, ← same_end rs ns w.2, after _ first) (after _ (numbers_of_text rs ns rest short.1 w.2))

pub numbers_only : (rs : List Range) (ns s rest : List ℕ) → numbers rs s ≡ got ns rest → StoodAs (numbers_text ns) (InRanges rs ns) s rest
unfolding numbers numbers_text
numbers_only [] ns s rest h =
    let same : [] ≡ ns = cc in
    rw (← same) (record { start = cc; facts = tt })
numbers_only (r ∷ rs) ns s rest h =
    parts (field r (end_byte rs) s) _ h λ n s1 e1 h1.
    parts (numbers rs s1) _ h1 λ ns2 s2 e2 h2.
    let f = field_only r (end_byte rs) n s s1 e1 in
    let g = numbers_only rs ns2 s1 s2 e2 in
    let same : n ∷ ns2 ≡ ns = cc in
    let end : s2 ≡ rest = cc in
    rw (← same, ← end) (record {
      start = f.text ∙ rw (append_assoc, g.start, same_end rs ns2 g.facts);
      facts = (f.above, f.below, g.facts);
    })

-- ---- lines

pub line_of_text : (x : ℕ) (rs : List Range) (ns rest : List ℕ) → Short rs → InRanges rs ns → line x rs (line_text x ns ++ rest) ≡ got ns rest
unfolding line line_text
line_of_text x rs ns rest short w = after _ (letter_of_text x (numbers_text ns ++ rest)) ∙ numbers_of_text rs ns rest short w

pub line_only : (x : ℕ) (rs : List Range) (ns s rest : List ℕ) → line x rs s ≡ got ns rest → StoodAs (line_text x ns) (InRanges rs ns) s rest
unfolding line line_text
line_only x rs ns s rest h =
    parts (letter x s) _ h λ c s1 e1 h1.
    let n = numbers_only rs ns s1 rest h1 in
    record { start = letter_only x c s s1 e1 ∙ rw n.start; facts = n.facts }

-- k rows, each within the ranges
pub data Rows (rs : List Range) : ℕ → List (List ℕ) → Type 0 where
  no_row : Rows rs zero []
  row : {k : ℕ} {ns : List ℕ} {rows : List (List ℕ)} → InRanges rs ns → Rows rs k rows → Rows rs (suc k) (ns ∷ rows)

abbrev pub rows_text : ℕ → List (List ℕ) → List ℕ
rows_text x [] = []
rows_text x (ns ∷ rows) = line_text x ns ++ rows_text x rows

pub lines_of_text : {rs : List Range} {k : ℕ} {rows : List (List ℕ)} (x : ℕ) (rest : List ℕ) → Short rs → Rows rs k rows
    → lines x rs k (rows_text x rows ++ rest) ≡ got rows rest
unfolding lines
lines_of_text x rest short no_row = refl
lines_of_text {rs} x rest short (row {k} {ns} {rows} w more) =
    rw (append_assoc, after _ (line_of_text x rs ns (rows_text x rows ++ rest) short w)) (after _ (lines_of_text x rest short more))

pub lines_only : (x : ℕ) (rs : List Range) (k : ℕ) (rows : List (List ℕ)) (s rest : List ℕ) → lines x rs k s ≡ got rows rest
    → StoodAs (rows_text x rows) (Rows rs k rows) s rest
unfolding lines
lines_only x rs zero rows s rest h =
    let same : [] ≡ rows = cc in
    rw (← same) (record { start = cc; facts = no_row })
lines_only x rs (suc k) rows s rest h =
    parts (line x rs s) _ h λ ns s1 e1 h1.
    parts (lines x rs k s1) _ h1 λ rows2 s2 e2 h2.
    let f = line_only x rs ns s s1 e1 in
    let g = lines_only x rs k rows2 s1 s2 e2 in
    let same : ns ∷ rows2 ≡ rows = cc in
    let end : s2 ≡ rest = cc in
    rw (← same, ← end) (record { start = f.start ∙ rw (append_assoc, g.start); facts = row f.facts g.facts })

-- ---- the first line

pub record Heading (ns : List ℕ) : Type 0 where
  pub within : InRanges head_ranges ns
  pub source_below : get_or ns 3 0 < get_or ns 0 0

pub header_of_text : (ns rest : List ℕ) → Heading ns → header (line_text 66 ns ++ rest) ≡ got ns rest
unfolding header
header_of_text ns rest h =
    after _ (line_of_text 66 head_ranges ns rest (omega arith) h.within) ∙ pick_yes _ _ _ (lt-ltb _ _ h.source_below)

pub header_only : (ns s rest : List ℕ) → header s ≡ got ns rest → StoodAs (line_text 66 ns) (Heading ns) s rest
unfolding header
header_only ns s rest h =
    parts (line 66 head_ranges s) _ h λ ns1 s1 e1 h1.
    let p = picked _ (got ns1 s1) 2 h1 in
    let same : ns1 ≡ ns = cc p.chosen in
    let end : s1 ≡ rest = cc p.chosen in
    let f = line_only 66 head_ranges ns1 s s1 e1 in
    rw (← same, ← end) (record { start = f.start; facts = record { within = f.facts; source_below = ltb-true _ _ p.test } })

-- ---- a refusal is never 0

data Fair {A : Type 0} : Read A → Type 0 where
  not_zero : (n : ℕ) → 0 < n → Fair (refused n)
  through : {a : A} {s : List ℕ} → Fair (got a s)

fair_then : {A B : Type 0} {o : Read A} (f : A → List ℕ → Read B) → Fair o → ((a : A) (s : List ℕ) → Fair (f a s)) → Fair (then o f)
unfolding then
fair_then f (not_zero n h) k = not_zero n h
fair_then f (through {a} {s}) k = k a s

fair_pick : {A : Type 0} (t : Bool) (o : Read A) (n : ℕ) → Fair o → 0 < n → Fair (pick t o (refused n))
unfolding pick
fair_pick true o n h k = h
fair_pick false o n h k = not_zero n k

fair_field : (r : Range) (e : ℕ) (s : List ℕ) → Fair (field r e s)
unfolding field
fair_field r e s = fair_pick _ _ 1 (go (number_of (take (index_of e s) s)) (drop (suc (index_of e s)) s)) (omega arith)
  where
    go : (o : Option ℕ) (t : List ℕ) → Fair (ranged r o t)
    go None t = not_zero 1 (omega arith)
    go (Some n) t = fair_pick _ (got n t) 2 through (omega arith)

fair_numbers : (rs : List Range) (s : List ℕ) → Fair (numbers rs s)
unfolding numbers
fair_numbers [] s = through
fair_numbers (r ∷ rs) s = fair_then _ (fair_field r (end_byte rs) s) λ n s1. fair_then _ (fair_numbers rs s1) λ ns s2. through

fair_line : (x : ℕ) (rs : List Range) (s : List ℕ) → Fair (line x rs s)
unfolding line
fair_line x rs s = fair_then _ (fair_pick _ (got x (drop 2 s)) 1 through (omega arith)) λ c s1. fair_numbers rs s1

fair_lines : (x : ℕ) (rs : List Range) (k : ℕ) (s : List ℕ) → Fair (lines x rs k s)
unfolding lines
fair_lines x rs zero s = through
fair_lines x rs (suc k) s = fair_then _ (fair_line x rs s) λ ns s1. fair_then _ (fair_lines x rs k s1) λ rows s2. through

fair_nothing_follows : (net : Network) (s : List ℕ) → Fair (nothing_follows net s)
unfolding nothing_follows
fair_nothing_follows net [] = through
fair_nothing_follows net (c ∷ s) = not_zero 1 (omega arith)

fair_layout : (s : List ℕ) → Fair (layout s)
unfolding layout
fair_layout s =
    fair_then _ (fair_then _ (fair_line 66 head_ranges s) λ ns s1. fair_pick _ (got ns s1) 2 through (omega arith)) λ ns s1.
    fair_then _ (fair_then _ (fair_lines 67 (edge_ranges (headed ns).vertices) (headed ns).edges s1) λ rows s2. through) λ net s2.
    fair_then _ (fair_then _ (fair_lines 87 (terminal_ranges net.vertices) net.terminals s2) λ rows s3. through) λ whole s3.
    fair_nothing_follows whole s3

pub refused_above : (s : List ℕ) (n : ℕ) → layout s ≡ refused n → 0 < n
refused_above s n e = go (rw e at (fair_layout s))
  where
    go : Fair {A = Network} (refused n) → 0 < n
    go (not_zero m h) = h
