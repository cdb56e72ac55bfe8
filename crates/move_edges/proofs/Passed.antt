-- A set that is filled edge by edge. After the first i edges it has those of them with the property: edge i joins where it has the property, and nothing is
-- said of another edge. At a vertex, the property is that the edge has its end there, so one edge joins one set.
use mathlib.Core.Path.{◌≡◌, sym, ap, ◌∙◌}
use mathlib.Core.Bool.{Bool, true, false}
use mathlib.Core.List.{List}
use mathlib.Core.Logic.{◌⊎◌, inl, inr, ◌≢◌}
use Prim.Native.Nat.{ℕ, ◌+◌, ◌<◌, ◌≤◌}
use native.Mathlib.Omega.{arith}
use lib.Dec.{ltb, eqb}
use lib.ListN.{length, get_or, set, replicate, length-set, length-replicate, get_or-replicate}
use lib.Seq.{get_or-set_same, get_or-set_other}
use borrow.Author.Tests.{lt-ltb, le-ltb, eq-eqb, ne_eqb}
use Rattle.lists.specs.Choice.{pick, both}
use Rattle.lists.proofs.Laws.{Known, was_true, was_false, known, lt_or_ge, eq_or_ne, pick_yes, pick_no}
use Rattle.sets.specs.Sets.{has_bit, with_bit}
use Rattle.sets.proofs.Bits.{has-none, has_with_same, has_with_other}

-- of the first i edges, the set has those with p
abbrev pub Passed : (ℕ → Bool) → ℕ → ℕ → Type 0
Passed p i m = (e : ℕ) → has_bit m e ≡ both (ltb e i) (p e)

pub passed_none : (p : ℕ → Bool) → Passed p 0 0
unfolding both
passed_none p e = has-none e ∙ rw (le-ltb e 0 (omega arith))

pub passed_all : (p : ℕ → Bool) (n i m : ℕ) → n ≤ i → Passed p i m → (e : ℕ) → e < n → has_bit m e ≡ p e
unfolding both
passed_all p n i m h all e l = all e ∙ rw (lt-ltb e i (omega arith))

-- an edge other than i is one of the first i where it is one of the first i + 1
next_other : (e i : ℕ) → e ≢ i → ltb e i ≡ ltb e (i + 1)
next_other e i q = split (lt_or_ge e i)
  where
    split : (e < i) ⊎ (i ≤ e) → ltb e i ≡ ltb e (i + 1)
    split (inl l) = rw (lt-ltb e i l, lt-ltb e (i + 1) (omega arith))
    split (inr l) = rw (le-ltb e i l, le-ltb e (i + 1) (omega (arith, q, l)))

module _ (p : ℕ → Bool) (i m : ℕ) (before : Passed p i m) where
  -- edge i joins
  pub passed_joins : p i ≡ true → Passed p (i + 1) (with_bit m i)
  unfolding both
  passed_joins t e = go (eq_or_ne e i)
    where
      go : (e ≡ i) ⊎ (e ≢ i) → has_bit (with_bit m i) e ≡ both (ltb e (i + 1)) (p e)
      go (inl q) = rw (q, has_with_same m i, lt-ltb i (i + 1) (omega arith), t)
      go (inr q) = has_with_other m i e q ∙ before e ∙ ap (λ (b : Bool). both b (p e)) (next_other e i q)

  -- edge i does not
  pub passed_stays : p i ≡ false → Passed p (i + 1) m
  unfolding both
  passed_stays t e = before e ∙ go (eq_or_ne e i)
    where
      go : (e ≡ i) ⊎ (e ≢ i) → both (ltb e i) (p e) ≡ both (ltb e (i + 1)) (p e)
      go (inl q) = rw (q, le-ltb i i (omega arith), lt-ltb i (i + 1) (omega arith), t)
      go (inr q) = ap (λ (b : Bool). both b (p e)) (next_other e i q)

  pub passed_turn : Passed p (i + 1) (pick (p i) (with_bit m i) m)
  passed_turn = go (known (p i))
    where
      go : Known (p i) → Passed p (i + 1) (pick (p i) (with_bit m i) m)
      go (was_true t) = rw (pick_yes (p i) (with_bit m i) m t) (passed_joins t)
      go (was_false t) = rw (pick_no (p i) (with_bit m i) m t) (passed_stays t)

-- the sets of the n vertices: each has passed the same edges
pub record AllPassed (ends : List ℕ) (n i : ℕ) (edges : List ℕ) : Type 0 where
  pub size : length edges ≡ n
  pub each : (v : ℕ) → v < n → Passed (λ e. eqb (get_or ends e 0) v) i (get_or edges v 0)

pub all_none : (ends : List ℕ) (n : ℕ) → AllPassed ends n 0 (replicate n 0)
all_none ends n = record { size = length-replicate n 0; each = λ v l. rw (get_or-replicate {A = ℕ} n v 0 0 l) (passed_none _) }

-- what the code stores after edge i
abbrev pub joined_at : List ℕ → ℕ → ℕ → List ℕ
joined_at edges v i = set edges v (with_bit (get_or edges v 0) i)

pub all_turn : (ends : List ℕ) (n i : ℕ) (edges : List ℕ) → AllPassed ends n i edges → AllPassed ends n (i + 1) (joined_at edges (get_or ends i 0) i)
all_turn ends n i edges before = record { size = length-set edges (get_or ends i 0) _ ∙ before.size; each = λ v l. go v l (eq_or_ne v (get_or ends i 0)) }
  where
    go : (v : ℕ) → v < n → (v ≡ get_or ends i 0) ⊎ (v ≢ get_or ends i 0)
        → Passed (λ e. eqb (get_or ends e 0) v) (i + 1) (get_or (joined_at edges (get_or ends i 0) i) v 0)
    go v l (inl q) =
        let inside : v < length edges = omega (arith, before.size, l) in
        rw (← q, get_or-set_same edges v (with_bit (get_or edges v 0) i) 0 inside)
        (passed_joins (λ e. eqb (get_or ends e 0) v) i (get_or edges v 0) (before.each v l) (eq-eqb (get_or ends i 0) v (sym q)))
    go v l (inr q) =
        rw (get_or-set_other edges (get_or ends i 0) v (with_bit (get_or edges (get_or ends i 0) 0) i) 0 q)
        (passed_stays (λ e. eqb (get_or ends e 0) v) i (get_or edges v 0) (before.each v l) (ne_eqb (get_or ends i 0) v (λ z. q (sym z))))

pub all_passed : (ends : List ℕ) (n m i : ℕ) (edges : List ℕ) → m ≤ i → AllPassed ends n i edges
    → (v e : ℕ) → v < n → e < m → has_bit (get_or edges v 0) e ≡ eqb (get_or ends e 0) v
all_passed ends n m i edges h all v e l = passed_all (λ e. eqb (get_or ends e 0) v) m i (get_or edges v 0) h (all.each v l) e
