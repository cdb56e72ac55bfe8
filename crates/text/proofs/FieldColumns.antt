-- Rows and arrays. An array is a column of the rows stored over zeros: at each place it holds the row's number, and 0 past the rows,
-- so rows that were read are found again in the arrays, and an array that is 0 past its rows is its column.
use mathlib.Core.Path.{◌≡◌, refl, sym, ap, ◌∙◌}
use mathlib.Core.List.{List, [], ◌∷◌, ◌++◌}
use Prim.Native.Nat.{ℕ, zero, suc, ◌+◌, ◌<◌, ◌≤◌}
use native.Mathlib.Nat.{zero-add, add-zero}
use native.Mathlib.Omega.{arith}
use lib.Dec.{ltb}
use lib.ListN.{length, get_or, replicate, length-replicate, get_or-eq_default}
use lib.Seq.{sets, sets-eq, length-sets, get_or-drop, ext_get_or}
use borrow.Author.Tests.{ltb-true, ltb-false}
use Rattle.lists.proofs.Laws.{Known, was_true, was_false, known, zeros_at}
use Rattle.text.specs.declared.Range.{Range}
use Rattle.text.specs.Text.{field_column, lines_text, line_text}
use Rattle.text.proofs.Fields.{InRanges, Rows, no_row, row, rows_text}

-- ---- runs

-- f i, f (i + 1), .., f (i + k - 1)
abbrev pub run : {A : Type 0} → (ℕ → A) → ℕ → ℕ → List A
run f i zero = []
run f i (suc k) = f i ∷ run f (suc i) k

module _ {A : Type 0} where
  pub run_length : (f : ℕ → A) (i k : ℕ) → length (run f i k) ≡ k
  run_length f i zero = refl
  run_length f i (suc k) = ap suc (run_length f (suc i) k)

  pub run_at : (f : ℕ → A) (i k j : ℕ) (d : A) → j < k → get_or (run f i k) j d ≡ f (i + j)
  run_at f i zero j d h = absurd (omega arith)
  run_at f i (suc k) zero d h = rw add-zero
  run_at f i (suc k) (suc j) d h =
      let s : i + suc j ≡ suc i + j = omega arith in
      rw s (run_at f (suc i) k j d (omega arith))

  -- a list is the run of its entries
  pub run_of : (d : A) (f : ℕ → A) (l : List A) → ((j : ℕ) → j < length l → f j ≡ get_or l j d) → run f 0 (length l) ≡ l
  run_of d f l e =
      ext_get_or d _ l (run_length f 0 (length l)) λ j h.
      let less : j < length l = omega (arith, run_length f 0 (length l)) in
      run_at f 0 (length l) j d less ∙ rw zero-add (e j less)

-- the lines of a run of rows
pub lines_run : (x : ℕ) (f : ℕ → List ℕ) (i k : ℕ) → lines_text x f i k ≡ rows_text x (run f i k)
unfolding lines_text
lines_run x f i zero = refl
lines_run x f i (suc k) = ap (λ (t : List ℕ). line_text x (f i) ++ t) (lines_run x f (suc i) k)

-- the lines of a list of rows
pub lines_of : (x k : ℕ) (f : ℕ → List ℕ) (rows : List (List ℕ)) → length rows ≡ k → ((i : ℕ) → i < k → f i ≡ get_or rows i [])
    → lines_text x f 0 k ≡ rows_text x rows
lines_of x k f rows e same = rw (lines_run, ← e, run_of [] f rows (λ i h. same i (omega arith)))

-- ---- rows in their ranges

-- a row has as many numbers as ranges, so it can be written out
within_length : (rs : List Range) (ns : List ℕ) → InRanges rs ns → length ns ≡ length rs
within_length [] [] w = refl
within_length [] (n ∷ ns) w = absurd w
within_length (r ∷ rs) [] w = absurd w
within_length (r ∷ rs) (n ∷ ns) w = ap suc (within_length rs ns w.2)

pub spelled : (rs : List Range) (ns : List ℕ) → InRanges rs ns → run (λ c. get_or ns c 0) 0 (length rs) ≡ ns
spelled rs ns w = rw (← within_length rs ns w) (run_of 0 _ ns (λ c h. refl))

pub spelled_within : (rs : List Range) (ns : List ℕ) → InRanges rs ns → InRanges rs (run (λ c. get_or ns c 0) 0 (length rs))
spelled_within rs ns w = rw (spelled rs ns w) w

module _ {rs : List Range} where
  pub rows_length : {k : ℕ} {rows : List (List ℕ)} → Rows rs k rows → length rows ≡ k
  rows_length no_row = refl
  rows_length (row w more) = ap suc (rows_length more)

  rows_at : {k : ℕ} {rows : List (List ℕ)} → Rows rs k rows → (i : ℕ) → i < k → InRanges rs (get_or rows i [])
  rows_at no_row i h = absurd (omega arith)
  rows_at (row w more) zero h = w
  rows_at (row w more) (suc i) h = rows_at more i (omega arith)

  -- row i, written out, and in its ranges
  pub row_spelled : {k : ℕ} {rows : List (List ℕ)} → Rows rs k rows → (i : ℕ) → i < k
      → run (λ c. get_or (get_or rows i []) c 0) 0 (length rs) ≡ get_or rows i []
  row_spelled all i h = spelled rs _ (rows_at all i h)

  pub row_within : {k : ℕ} {rows : List (List ℕ)} → Rows rs k rows → (i : ℕ) → i < k
      → InRanges rs (run (λ c. get_or (get_or rows i []) c 0) 0 (length rs))
  row_within all i h = spelled_within rs _ (rows_at all i h)

  pub rows_run : (f : ℕ → List ℕ) (i k : ℕ) → ((j : ℕ) → i ≤ j → j < i + k → InRanges rs (f j)) → Rows rs k (run f i k)
  rows_run f i zero w = no_row
  rows_run f i (suc k) w = row (w i (omega arith) (omega arith)) (rows_run f (suc i) k λ j h g. w j (omega arith) (omega arith))

-- ---- columns

pub field_column-length : (j : ℕ) (rows : List (List ℕ)) → length (field_column j rows) ≡ length rows
field_column-length j [] = refl
field_column-length j (ns ∷ rows) = ap suc (field_column-length j rows)

field_column_at : (j : ℕ) (rows : List (List ℕ)) (i : ℕ) → get_or (field_column j rows) i 0 ≡ get_or (get_or rows i []) j 0
field_column_at j [] i = refl
field_column_at j (ns ∷ rows) zero = refl
field_column_at j (ns ∷ rows) (suc i) = field_column_at j rows i

abbrev pub zeros : ℕ → List ℕ
zeros size = replicate size 0

-- a column stored over zeros
abbrev pub stored : ℕ → ℕ → List (List ℕ) → List ℕ
stored size j rows = sets (zeros size) 0 (field_column j rows)

pub stored_length : (size j : ℕ) (rows : List (List ℕ)) → length (stored size j rows) ≡ size
stored_length size j rows = length-sets (zeros size) 0 (field_column j rows) ∙ length-replicate size 0

-- zeros behind a list change nothing
zeros_behind : (vs t : List ℕ) (i : ℕ) → ((j : ℕ) → get_or t j 0 ≡ 0) → get_or (vs ++ t) i 0 ≡ get_or vs i 0
zeros_behind [] t i z = z i
zeros_behind (v ∷ vs) t zero z = refl
zeros_behind (v ∷ vs) t (suc i) z = zeros_behind vs t i z

-- what each place holds: the row's number, 0 past the rows
pub stored_at : (size j : ℕ) {k : ℕ} (rows : List (List ℕ)) (i : ℕ) → length rows ≡ k → k ≤ size
    → get_or (stored size j rows) i 0 ≡ get_or (get_or rows i []) j 0
stored_at size j rows i e h =
    let vs : List ℕ = field_column j rows in
    let fits : 0 + length vs ≤ length (zeros size) = omega (arith, field_column-length j rows, length-replicate {A = ℕ} size 0) in
    rw (sets-eq vs (zeros size) 0 fits)
    (zeros_behind vs _ i (λ m. get_or-drop (0 + length vs) (zeros size) m 0 ∙ zeros_at size _) ∙ field_column_at j rows i)

pub stored_past : (size j : ℕ) {k : ℕ} (rows : List (List ℕ)) (i : ℕ) → length rows ≡ k → k ≤ size → k ≤ i → get_or (stored size j rows) i 0 ≡ 0
stored_past size j rows i e h past =
    stored_at size j rows i e h ∙ ap (λ (ns : List ℕ). get_or ns j 0) (get_or-eq_default rows [] {n = i} (omega arith))

-- the way back: an array that is 0 past its k rows
pub stored_back : (l : List ℕ) (size j k : ℕ) (f : ℕ → List ℕ) → length l ≡ size → k ≤ size → ((i : ℕ) → k ≤ i → get_or l i 0 ≡ 0)
    → ((i : ℕ) → get_or (f i) j 0 ≡ get_or l i 0) → stored size j (run f 0 k) ≡ l
stored_back l size j k f e h z same = ext_get_or 0 _ l (stored_length size j (run f 0 k) ∙ sym e) λ i g. go i (known (ltb i k))
  where
    go : (i : ℕ) → Known (ltb i k) → get_or (stored size j (run f 0 k)) i 0 ≡ get_or l i 0
    go i (was_true t) =
        stored_at size j (run f 0 k) i (run_length f 0 k) h ∙ rw (run_at f 0 k i [] (ltb-true i k t), zero-add) (same i)
    go i (was_false t) =
        let past : k ≤ i = ltb-false i k t in
        stored_past size j (run f 0 k) i (run_length f 0 k) h past ∙ sym (z i past)
