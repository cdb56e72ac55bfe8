-- What `all` answers over the numbers below n: the test of each of them.
use mathlib.Core.Path.{◌≡◌, refl, ◌∙◌}
use mathlib.Core.Bool.{Bool, true, false, ◌&&◌}
use mathlib.Core.List.{List}
use Prim.Native.Nat.{ℕ, zero, suc}
use native.Mathlib.Numerals.{add-one}
use native.Mathlib.Nat.{sub-zero}
use denote.Param.Members.{Mut}
use Rattle.std.specs.Prelude.{Option}
use Rattle.std.specs.Iterator.{YieldsThen}
use Rattle.std.specs.List.{FoldsTo, range_with_len, list_all}
use Rattle.std.specs.Fn.{Called}
use Rattle.std.specs.Option.{MatchOption}
use Rattle.std.specs.declared.ops.Range.{Range}
use Rattle.std.proofs.iter.Yields.{nat_range_steps}
use Rattle.std.proofs.lemmas.Iterator.{YieldsList-from_range}
use Rattle.std.proofs.lemmas.Iterator.Search.{all_from_yields_List}
use Rattle.lists.specs.Lists.{all}

-- the library's test of every number of a range
every : (p : ℕ → Bool) (i n : ℕ) → list_all p (range_with_len i n) ≡ all p i n
unfolding all
every p i zero = refl
every p i (suc n) = rw (add-one i, every p (suc i) n) (first (p i) (all p (suc i) n))
  where
    first : (a b : Bool) → (a && b) ≡ elim a [ true ↦ b | false ↦ false ]
    first true b = refl
    first false b = refl

pub all_below : {F : Type 0} {g : Mut F (ℕ × Unit {0}) Bool} {n : ℕ} (p : ℕ → Bool) (u : Range ℕ) (f : F) (r : Bool)
    → (xs : List ℕ) × (o : Option ℕ) × (j : F) × YieldsThen nat_range_steps (record { start = 0; end = n }) xs o u
    × FoldsTo (λ p x q. Called g p (x, tt) true q) f xs j × MatchOption o (r ≡ true) (λ x. (r ≡ false) × ((h : F) × Called g j (x, tt) false h))
    → ((x : ℕ) (b : Bool) (q : F) → Called g f (x, tt) b q → (q ≡ f) × (b ≡ p x)) → r ≡ all p 0 n
all_below {n = n} p u f r ran each = all_from_yields_List p u f r ran (YieldsList-from_range 0 n n refl (sub-zero n)) each ∙ every p 0 n
