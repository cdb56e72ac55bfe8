-- Words that were packed stand for the entry that was packed; a store of packed words is a store of the entry.
use mathlib.Core.Path.{◌≡◌, refl, sym, ap, ◌∙◌}
use mathlib.Core.Bool.{Bool, true, false, ◌&&◌}
use mathlib.Core.List.{List, [], ◌∷◌, map}
use Prim.Native.Nat.{ℕ, zero, suc, ◌<◌, ◌≤◌}
use native.Mathlib.Omega.{arith}
use native.Mathlib.Nat.{mod-eq_of_lt}
use lib.Pointwise.{pointwise}
use lib.ListN.{length, get_or, set, replicate, get_or-map, get_or-eq_default}
use lib.Dec.{eqb}
use Rattle.lists.specs.Choice.{pick, both}
use Rattle.board.specs.Record.{blank}
use Rattle.board.specs.Whole.{Move, Carry, Turn, Entry}
use Rattle.journal.specs.Words.{packed, unpacked, entry_in, standing, blank_words}
use Rattle.journal.specs.Inner.{place_words, is_zeros, is_blank_at}

-- the numbers of a move are numbers of 32 bits
abbrev pub Fits : Move → Type 0
Fits (Carry r) = (r.terminal < 4294967296) × (r.edge < 4294967296)
Fits (Turn a) = a.amount < 4294967296

pub unpacked-packed : (m : Move) → Fits m → unpacked (packed (record { step = m })) ≡ record { step = m }
unfolding unpacked pick
unpacked-packed (Carry r) f = ap (λ (p : ℕ × ℕ). record { step = Carry (record { terminal = p.0; edge = p.1 }) }) (λ i. (mod-eq_of_lt f.0 i, mod-eq_of_lt f.1 i))
unpacked-packed (Turn a) f = ap (λ (n : ℕ). record { step = Turn (record { amount = n; down = a.down; up = a.up; marked = a.marked }) }) (mod-eq_of_lt f)

pub map-set : (f : List ℕ → Entry) (l : List (List ℕ)) (i : ℕ) (w : List ℕ) → map f (set l i w) ≡ set (map f l) i (f w)
map-set f [] i w = refl
map-set f (x ∷ l) zero w = refl
map-set f (x ∷ l) (suc i) w = ap (λ (t : List Entry). f x ∷ t) (map-set f l i w)

-- the entry at a place is the one that its words stand for
pub read_at : (l : List (List ℕ)) (i : ℕ) → unpacked (get_or l i blank_words) ≡ entry_in l i
unfolding unpacked pick
read_at l i = sym (get_or-map unpacked l i blank_words)

-- the standing moves, with one more, with one less, and the last of them; k is the greater count
add_next : (m : ℕ) (es : List Entry) (x : Entry) → set (standing m es) m x ≡ standing (suc m) (set es m x)
unfolding standing
add_next m [] x = refl
add_next zero (y ∷ es) x = refl
add_next (suc m) (y ∷ es) x = ap (λ (t : List Entry). y ∷ t) (add_next m es x)

back_next : (m : ℕ) (es : List Entry) (w : Entry) → set (standing (suc m) es) m blank ≡ standing m (set es m w)
unfolding standing
back_next m [] w = refl
back_next zero (y ∷ es) w = refl
back_next (suc m) (y ∷ es) w = ap (λ (t : List Entry). y ∷ t) (back_next m es w)

last_next : (m : ℕ) (es : List Entry) → get_or (standing (suc m) es) m blank ≡ get_or es m blank
unfolding standing
last_next m [] = refl
last_next zero (y ∷ es) = refl
last_next (suc m) (y ∷ es) = last_next m es

pub add_standing : (m k : ℕ) (es : List Entry) (x : Entry) → k ≡ suc m → set (standing m es) m x ≡ standing k (set es m x)
add_standing m k es x e = rw e (add_next m es x)

pub back_standing : (m k : ℕ) (es : List Entry) (w : Entry) → k ≡ suc m → set (standing k es) m blank ≡ standing m (set es m w)
back_standing m k es w e = rw e (back_next m es w)

pub last_standing : (m k : ℕ) (es : List Entry) → k ≡ suc m → get_or (standing k es) m blank ≡ get_or es m blank
last_standing m k es e = rw e (last_next m es)

pub none-standing : (es : List Entry) → get_or (standing 0 es) 0 blank ≡ blank
unfolding standing
none-standing [] = refl
none-standing (y ∷ es) = refl

-- a store behind the standing moves changes none of them
keeps-none : (m : ℕ) (es : List Entry) (x : Entry) → standing 0 (set es m x) ≡ standing 0 es
unfolding standing
keeps-none m [] x = refl
keeps-none zero (y ∷ es) x = refl
keeps-none (suc m) (y ∷ es) x = ap (λ (t : List Entry). blank ∷ t) (keeps-none m es x)

pub keep_standing : (n m : ℕ) (es : List Entry) (x : Entry) → n ≤ m → standing n (set es m x) ≡ standing n es
unfolding standing
keep_standing zero m es x h = keeps-none m es x
keep_standing (suc n) m [] x h = refl
keep_standing (suc n) zero (y ∷ es) x h = absurd (omega (arith, h))
keep_standing (suc n) (suc m) (y ∷ es) x h = ap (λ (t : List Entry). y ∷ t) (keep_standing n m es x (omega (arith, h)))

pub length-standing : (m : ℕ) (es : List Entry) → length (standing m es) ≡ length es
unfolding standing
length-standing m [] = refl
length-standing zero (y ∷ es) = ap suc (length-standing zero es)
length-standing (suc m) (y ∷ es) = ap suc (length-standing m es)

-- words compared with so many zeros
both_test : (s t : Bool) → (s && t) ≡ both s t
unfolding both
both_test true t = refl
both_test false t = refl

pub zeros_compared : (n : ℕ) (w : List ℕ) → pointwise eqb w (replicate n 0) ≡ is_zeros n w
unfolding is_zeros
zeros_compared zero [] = refl
zeros_compared zero (x ∷ w) = refl
zeros_compared (suc n) [] = refl
zeros_compared (suc n) (x ∷ w) = both_test (eqb x 0) (pointwise eqb w (replicate n 0)) ∙ ap (both (eqb x 0)) (zeros_compared n w)

-- a place past the words
pub blank_past : (l : List (List ℕ)) (i : ℕ) → length l ≤ i → true ≡ is_blank_at l i
unfolding is_blank_at is_zeros both
blank_past l i h = ap (is_zeros place_words) (sym (get_or-eq_default l blank_words h))
