-- What shifted flows are: a loop writes each edge's new flow once, from its old one, and may leave out the edges of neither way. Where the sets of the two ways share no edge and the lowered flows are
-- x or more, a shift with the sets exchanged takes the shift back. The sets gathered from a trail's steps shift as the steps change the flows one by one.
use mathlib.Core.Path.{◌≡◌, refl, sym, ap, ◌∙◌}
use mathlib.Core.Bool.{Bool, true, false, not, true≢false}
use mathlib.Core.Logic.{◌⊎◌, inl, inr, ◌≢◌}
use mathlib.Core.List.{List, [], ◌∷◌}
use Prim.Native.Nat.{ℕ, zero, suc, ◌+◌, ◌-◌, ◌≤◌, ◌<◌, ◌^◌}
use native.Mathlib.Omega.{arith}
use lib.Dec.{eqb}
use lib.ListN.{length, get_or, set, length-set, get_or-eq_default}
use lib.Seq.{get_or-set_same, get_or-set_other, ext_get_or}
use borrow.Author.Tests.{eq-eqb, ne_eqb}
use Rattle.lists.specs.Choice.{pick, both, either}
use Rattle.lists.specs.Members.{has, Distinct}
use Rattle.lists.proofs.Laws.{Known, was_true, was_false, known, eq_or_ne, pick_yes, pick_no, either_left, either_right}
use Rattle.sets.specs.Sets.{has_bit, joined}
use Rattle.sets.specs.Inner.{set_width, dropped}
use Rattle.sets.proofs.Bits.{has-none, has-joined}
use Rattle.sets.proofs.Scan.{has-dropped, dropped_less}
use Rattle.graph_flows.specs.Trails.{Step, down, up, edge_of, edges_of, In}
use Rattle.graph_flows.specs.Inner.{changed_along, Fits}
use Rattle.graph_flows.proofs.Change.{over, in_edges, after, changed-length, changed_other, changed_at}
use Rattle.move_cycle.specs.Steps.{gather}
use Rattle.move_cycle.proofs.Cycled.{gather-has, gather_from, gathered_apart}
use Rattle.move_cycle.specs.Shifts.{shifted_at, shift_from, shifted}

module _ (x d u : ℕ) where
  -- one edge
  pub shifted_down : (e f : ℕ) → has_bit d e ≡ true → shifted_at x d u e f ≡ f - x
  unfolding shifted_at
  shifted_down e f p = pick_yes (has_bit d e) (f - x) (pick (has_bit u e) (f + x) f) p

  pub shifted_up : (e f : ℕ) → has_bit d e ≡ false → has_bit u e ≡ true → shifted_at x d u e f ≡ f + x
  unfolding shifted_at
  shifted_up e f p q = pick_no (has_bit d e) (f - x) (pick (has_bit u e) (f + x) f) p ∙ pick_yes (has_bit u e) (f + x) f q

  pub shifted_other : (e f : ℕ) → has_bit d e ≡ false → has_bit u e ≡ false → shifted_at x d u e f ≡ f
  unfolding shifted_at
  shifted_other e f p q = pick_no (has_bit d e) (f - x) (pick (has_bit u e) (f + x) f) p ∙ pick_no (has_bit u e) (f + x) f q

  -- the loop: edges before it keep what is there, edges in it get their new flow
  from_length : (flows new : List ℕ) (e k : ℕ) → length (shift_from x d u flows new e k) ≡ length new
  unfolding shift_from
  from_length flows new e zero = refl
  from_length flows new e (suc k) =
      let y = shifted_at x d u e (get_or flows e 0) in
      from_length flows (set new e y) (suc e) k ∙ length-set new e y

  from_before : (flows new : List ℕ) (e k j : ℕ) → j < e → get_or (shift_from x d u flows new e k) j 0 ≡ get_or new j 0
  unfolding shift_from
  from_before flows new e zero j h = refl
  from_before flows new e (suc k) j h =
      let y = shifted_at x d u e (get_or flows e 0) in
      from_before flows (set new e y) (suc e) k j (omega arith) ∙ get_or-set_other new e j y 0 (λ q. omega (arith, q, h))

  from_at : (flows new : List ℕ) (e k j : ℕ) → e ≤ j → j < e + k → j < length new
      → get_or (shift_from x d u flows new e k) j 0 ≡ shifted_at x d u j (get_or flows j 0)
  unfolding shift_from
  from_at flows new e zero j l h i = absurd (omega arith)
  from_at flows new e (suc k) j l h i =
      split (eq_or_ne e j) (λ n. from_at flows now (suc e) k j (omega (arith, n, l)) (omega arith) (rw (length-set new e y) i))
    where
      y : ℕ
      y = shifted_at x d u e (get_or flows e 0)

      now : List ℕ
      now = set new e y

      split : (e ≡ j) ⊎ (e ≢ j) → (e ≢ j → get_or (shift_from x d u flows now (suc e) k) j 0 ≡ shifted_at x d u j (get_or flows j 0))
          → get_or (shift_from x d u flows now (suc e) k) j 0 ≡ shifted_at x d u j (get_or flows j 0)
      split (inl q) ih =
          from_before flows now (suc e) k j (omega arith)
          ∙ rw (← q) (get_or-set_same new e y 0 (omega arith))
      split (inr n) ih = ih n

  -- all edges
  pub shifted_length : (flows : List ℕ) → length (shifted x d u flows) ≡ length flows
  unfolding shifted
  shifted_length flows = from_length flows flows 0 (length flows)

  pub shifted_at_lem : (flows : List ℕ) (e : ℕ) → e < length flows → get_or (shifted x d u flows) e 0 ≡ shifted_at x d u e (get_or flows e 0)
  unfolding shifted
  shifted_at_lem flows e h = from_at flows flows 0 (length flows) e (omega arith) (omega arith) h

  pub shifted_past : (flows : List ℕ) (e : ℕ) → length flows ≤ e → get_or (shifted x d u flows) e 0 ≡ 0
  shifted_past flows e h = get_or-eq_default (shifted x d u flows) 0 (rw (shifted_length flows) h)

-- the edges of `rest` have their old flow, and all others their new one
pub record ShiftedBut (x d u : ℕ) (flows new : List ℕ) (rest : ℕ) : Type 0 where
  pub fits : rest < 2 ^ set_width
  pub long : length new ≡ length flows
  pub old : (e : ℕ) → has_bit rest e ≡ true → get_or new e 0 ≡ get_or flows e 0
  pub moved : (e : ℕ) → has_bit rest e ≡ false → e < length flows → get_or new e 0 ≡ shifted_at x d u e (get_or flows e 0)

module _ (x d u : ℕ) (flows : List ℕ) where
  -- for the code: edges of neither way keep their flow; one more edge; none left
  pub but_both : (rest : ℕ) → rest < 2 ^ set_width → rest ≡ joined d u → ShiftedBut x d u flows flows rest
  but_both rest fits q = record {
    fits = fits;
    long = refl;
    old = λ e t. refl;
    moved = λ e t h. let n : either (has_bit d e) (has_bit u e) ≡ false = sym (has-joined d u e) ∙ ap (λ (m : ℕ). has_bit m e) (sym q) ∙ t in
        sym (shifted_other x d u e (get_or flows e 0) (either_left _ _ n) (either_right _ _ n));
  }

  pub but_one : (new : List ℕ) (rest e f : ℕ) → has_bit rest e ≡ true → f ≡ shifted_at x d u e (get_or new e 0) → ShiftedBut x d u flows new rest
      → ShiftedBut x d u flows (set new e f) (dropped rest e)
  unfolding both
  but_one new rest e f has q b = record {
    fits = omega (arith, dropped_less rest e has, b.fits);
    long = length-set new e f ∙ b.long;
    old = λ k t. kept k t (eq_or_ne k e);
    moved = λ k t h. goes k t h (eq_or_ne k e);
  }
    where
      other : (k : ℕ) → k ≢ e → has_bit (dropped rest e) k ≡ has_bit rest k
      other k n = has-dropped rest e k ∙ go (known (has_bit rest k))
        where
          go : Known (has_bit rest k) → both (has_bit rest k) (not (eqb k e)) ≡ has_bit rest k
          go (was_true t) = rw (t, ne_eqb k e n)
          go (was_false t) = rw t

      gone : has_bit (dropped rest e) e ≡ false
      gone = has-dropped rest e e ∙ rw (has, eq-eqb e e refl)

      kept : (k : ℕ) → has_bit (dropped rest e) k ≡ true → (k ≡ e) ⊎ (k ≢ e) → get_or (set new e f) k 0 ≡ get_or flows k 0
      kept k t (inl p) = absurd (true≢false (sym t ∙ rw p gone))
      kept k t (inr n) = get_or-set_other new e k f 0 n ∙ b.old k (sym (other k n) ∙ t)

      goes : (k : ℕ) → has_bit (dropped rest e) k ≡ false → k < length flows → (k ≡ e) ⊎ (k ≢ e)
          → get_or (set new e f) k 0 ≡ shifted_at x d u k (get_or flows k 0)
      goes k t h (inl p) =
          rw p (get_or-set_same new e f 0 (omega (arith, p, h, b.long)) ∙ q ∙ ap (shifted_at x d u e) (b.old e has))
      goes k t h (inr n) = get_or-set_other new e k f 0 n ∙ b.moved k (sym (other k n) ∙ t) h

  pub but_none : (new : List ℕ) (rest : ℕ) → rest ≡ 0 → ShiftedBut x d u flows new rest → new ≡ shifted x d u flows
  but_none new rest z b =
      ext_get_or 0 new (shifted x d u flows) (b.long ∙ sym (shifted_length x d u flows))
      (λ e h. let l : e < length flows = omega (arith, h, b.long) in
      b.moved e (ap (λ (m : ℕ). has_bit m e) z ∙ has-none e) l ∙ sym (shifted_at_lem x d u flows e l))

-- back again
at_back : (x d u e f : ℕ) → (has_bit d e ≡ true → has_bit u e ≡ true → ⊥) → (has_bit d e ≡ true → x ≤ f) → shifted_at x u d e (shifted_at x d u e f) ≡ f
at_back x d u e f apart room = split (known (has_bit d e)) (known (has_bit u e))
  where
    split : Known (has_bit d e) → Known (has_bit u e) → shifted_at x u d e (shifted_at x d u e f) ≡ f
    split (was_true p) (was_true q) = absurd (apart p q)
    split (was_true p) (was_false q) = rw (shifted_down x d u e f p) (shifted_up x u d e (f - x) q p ∙ (let l = room p in omega arith))
    split (was_false p) (was_true q) = rw (shifted_up x d u e f p q) (shifted_down x u d e (f + x) q ∙ omega arith)
    split (was_false p) (was_false q) = rw (shifted_other x d u e f p q) (shifted_other x u d e f q p)

pub shifted_back : (x d u : ℕ) (flows : List ℕ) → ((e : ℕ) → has_bit d e ≡ true → has_bit u e ≡ true → ⊥)
    → ((e : ℕ) → has_bit d e ≡ true → e < length flows → x ≤ get_or flows e 0) → shifted x u d (shifted x d u flows) ≡ flows
shifted_back x d u flows apart room = ext_get_or 0 (shifted x u d now) flows len (λ e h. one e (rw len at h))
  where
    now : List ℕ
    now = shifted x d u flows

    len : length (shifted x u d now) ≡ length flows
    len = shifted_length x u d now ∙ shifted_length x d u flows

    one : (e : ℕ) → e < length flows → get_or (shifted x u d now) e 0 ≡ get_or flows e 0
    one e h =
        shifted_at_lem x u d now e (rw (shifted_length x d u flows) h)
        ∙ rw (shifted_at_lem x d u flows e h) (at_back x d u e (get_or flows e 0) (apart e) (λ p. room e p h))

-- along a trail
fits_distinct : (flows : List ℕ) (x : ℕ) (w : List Step) → Fits flows x w → Distinct (edges_of w)
fits_distinct flows x [] f = tt
fits_distinct flows x (s ∷ w) f = (f.2, fits_distinct flows x w f.3)

-- an edge of no step is gathered neither way
gather_missed : (ups : Bool) (w : List Step) (e : ℕ) → has e (edges_of w) ≡ false → has_bit (gather ups 0 w) e ≡ false
gather_missed ups w e h = split (known (has_bit (gather ups 0 w) e))
  where
    split : Known (has_bit (gather ups 0 w) e) → has_bit (gather ups 0 w) e ≡ false
    split (was_true t) =
        let g = gather_from ups w e t in
        absurd (true≢false (sym (in_edges g.step w g.among) ∙ rw g.edge h))
    split (was_false t) = t

shifted_step : (flows : List ℕ) (x : ℕ) (w : List Step) (s : Step) → Distinct (edges_of w) → In s w
    → shifted_at x (gather false 0 w) (gather true 0 w) (edge_of s) (get_or flows (edge_of s) 0) ≡ after flows x s
unfolding pick
shifted_step flows x w (down e) d i = shifted_down x (gather false 0 w) (gather true 0 w) e (get_or flows e 0) (gather-has false w (down e) i refl)
shifted_step flows x w (up e) d i =
    let has_up : has_bit (gather true 0 w) e ≡ true = gather-has true w (up e) i refl in
    shifted_up x (gather false 0 w) (gather true 0 w) e (get_or flows e 0) (lacks has_up (known (has_bit (gather false 0 w) e))) has_up
  where
    lacks : has_bit (gather true 0 w) e ≡ true → Known (has_bit (gather false 0 w) e) → has_bit (gather false 0 w) e ≡ false
    lacks q (was_true p) = absurd (gathered_apart w e d p q)
    lacks q (was_false p) = p

pub shifted_changed : (flows : List ℕ) (x : ℕ) (w : List Step) → Fits flows x w → shifted x (gather false 0 w) (gather true 0 w) flows ≡ changed_along flows x w
shifted_changed flows x w f = ext_get_or 0 (shifted x downs ups flows) (changed_along flows x w) len (λ e h. one e (known (has e (edges_of w))) (rw (shifted_length x downs ups flows) at h))
  where
    downs : ℕ
    downs = gather false 0 w

    ups : ℕ
    ups = gather true 0 w

    len : length (shifted x downs ups flows) ≡ length (changed_along flows x w)
    len = shifted_length x downs ups flows ∙ sym (changed-length flows x w)

    one : (e : ℕ) → Known (has e (edges_of w)) → e < length flows → get_or (shifted x downs ups flows) e 0 ≡ get_or (changed_along flows x w) e 0
    one e (was_true t) h =
        let o = over w e t in
        let s = o.step in
        let q : edge_of s ≡ e = o.edge in
        shifted_at_lem x downs ups flows e h
        ∙ rw (← q) (shifted_step flows x w s (fits_distinct flows x w f) o.among ∙ sym (changed_at flows x w s f o.among))
    one e (was_false t) h =
        shifted_at_lem x downs ups flows e h
        ∙ shifted_other x downs ups e (get_or flows e 0) (gather_missed false w e t) (gather_missed true w e t)
        ∙ sym (changed_other flows x w e t)
