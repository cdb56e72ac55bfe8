-- Why the search by sets finds the carry of the search by lists: an open carry needs a flow of the demand or more, so its edge is positive and is in the set of
-- the positive edges that enter the terminal's vertex; and no edge past the count has flow, so the search of all places of a set stops at the same edge.
use mathlib.Core.Path.{◌≡◌, refl, sym, ap, ◌∙◌}
use mathlib.Core.Bool.{Bool, true, false, true≢false}
use mathlib.Core.List.{List, []}
use mathlib.Core.Logic.{◌⊎◌, inl, inr}
use Rattle.std.specs.Prelude.{Option, Some, None, is_some}
use Prim.Native.Nat.{ℕ, ◌<◌, ◌≤◌, ◌^◌}
use native.Mathlib.Omega.{arith}
use lib.Dec.{ltb, eqb}
use lib.ListN.{get_or}
use borrow.Author.Tests.{lt-ltb, le-ltb, ltb-true, ltb-false, eqb-true, leb-true}
use Rattle.lists.specs.Choice.{pick, both}
use Rattle.lists.specs.Lists.{lowest}
use Rattle.lists.proofs.Laws.{Known, was_true, was_false, known, lt_or_ge, pick_yes, pick_no, both_right}
use Rattle.lists.proofs.Lowest.{lowest_least, lowest_found}
use Rattle.sets.specs.Sets.{none, has_bit}
use Rattle.sets.specs.Sets.{common}
use Rattle.sets.specs.Inner.{set_width, is_empty, dropped, lowest_in}
use Rattle.sets.proofs.Scan.{has-common, has_inside, lowest_is, lowest_in_lem, scan_hit, scan_miss, scan_end}
use Rattle.move_edges.specs.Singular.{leaves}
use Rattle.move_edges.specs.Incidence.{touching_by}
use Rattle.move_edges.proofs.Meeting.{touching_is}
use Rattle.board.specs.declared.Network.{Network}
use Rattle.move_carry.specs.Opens.{flow_fits, enters_in, fits_in, is_open_in, open_edge_in, has_open_in, open_terminal_in, some_open_in}
use Rattle.move_carry.specs.Frames.{frame_of, net_of}
use Rattle.solve_carry.specs.Search.{Found, found_of, marked_open_in, marked_edge_in, chosen_edge_in, open_carry_in}
use Rattle.solve_carry.specs.Inner.{lowest_fit_by, chosen_by, fit_of, Searched}
use Rattle.move_guard.specs.Bounds.{InBounds}
use Rattle.move_edges.specs.Incidence.{Incident, PositiveSet}
use Rattle.board.specs.declared.Relocation.{Relocation}

-- a search that goes on past the last number with q finds the same
module _ (q : ℕ → Bool) (m n : ℕ) (within : m ≤ n) (past : (e : ℕ) → m ≤ e → q e ≡ false) where
  narrow : lowest q 0 n < n → (lowest q 0 m ≡ lowest q 0 n) × (lowest q 0 n < m)
  narrow h =
      let hit : q (lowest q 0 n) ≡ true = (lowest_least q 0 n).hit (omega (arith, h)) in
      let low : lowest q 0 n < m = inside (lt_or_ge (lowest q 0 n) m) hit in
      (lowest_is q m (lowest q 0 n) (omega arith) (λ l. hit) (λ j l. (lowest_least q 0 n).miss j (omega arith) l), low)
    where
      inside : (lowest q 0 n < m) ⊎ (m ≤ lowest q 0 n) → q (lowest q 0 n) ≡ true → lowest q 0 n < m
      inside (inl l) t = l
      inside (inr l) t = absurd (true≢false (sym t ∙ past (lowest q 0 n) l))

  narrow_none : n ≤ lowest q 0 n → m ≤ lowest q 0 m
  narrow_none h = go (lt_or_ge (lowest q 0 m) m)
    where
      go : (lowest q 0 m < m) ⊎ (m ≤ lowest q 0 m) → m ≤ lowest q 0 m
      go (inr l) = l
      go (inl l) = absurd (true≢false (sym ((lowest_least q 0 m).hit (omega (arith, l))) ∙ (lowest_least q 0 n).miss (lowest q 0 m) (omega arith) (omega (arith, l, within, h))))

-- no carry is open over an edge without flow
fits_positive : (mark : Bool) (flow demand : ℕ) → 0 < demand → flow_fits mark flow demand ≡ true → 0 < flow
unfolding flow_fits pick
fits_positive true flow demand h t = let e : flow ≡ demand = eqb-true flow demand t in omega arith
fits_positive false flow demand h t = let e : demand ≤ flow = leb-true demand flow t in omega arith

fits_zero : (mark : Bool) (demand : ℕ) → 0 < demand → flow_fits mark 0 demand ≡ false
fits_zero mark demand h = go (known (flow_fits mark 0 demand))
  where
    go : Known (flow_fits mark 0 demand) → flow_fits mark 0 demand ≡ false
    go (was_true t) = let l = fits_positive mark 0 demand h t in absurd (omega arith)
    go (was_false t) = t

both_off : (a : Bool) → both a false ≡ false
unfolding both
both_off true = refl
both_off false = refl

-- one turn of the search over a set, and its end
module _ (flows : List ℕ) (marks demand m e : ℕ) (lowest_one : e ≡ lowest_in m) where
  pub fit_here : m < 2 ^ set_width → is_empty m ≡ false → flow_fits (has_bit marks e) (get_or flows e 0) demand ≡ true → Some e ≡ fit_of (lowest_fit_by flows marks demand m)
  unfolding lowest_fit_by fit_of
  fit_here small some t =
      let has : has_bit m e ≡ true = lowest_in_lem m e lowest_one small some in
      rw (scan_hit (λ k. flow_fits (has_bit marks k) (get_or flows k 0) demand) m e lowest_one has t) (sym (pick_yes _ _ _ (lt-ltb e set_width (has_inside m e small has))))

  pub fit_later : flow_fits (has_bit marks e) (get_or flows e 0) demand ≡ false → lowest_fit_by flows marks demand (dropped m e) ≡ lowest_fit_by flows marks demand m
  unfolding lowest_fit_by
  fit_later t = scan_miss (λ k. flow_fits (has_bit marks k) (get_or flows k 0) demand) m e lowest_one t

-- none is left
pub fit_none : (flows : List ℕ) (marks demand m : ℕ) → is_empty m ≡ true → None ≡ fit_of (lowest_fit_by flows marks demand m)
unfolding lowest_fit_by fit_of pick
fit_none flows marks demand m z = rw (eqb-true m none z, scan_end (λ k. flow_fits (has_bit marks k) (get_or flows k 0) demand)) refl

-- an edge is given where it is below the count of a set's numbers
fit_some : (a e : ℕ) → fit_of a ≡ Some e → ltb a set_width ≡ true
unfolding fit_of
fit_some a e h = go (known (ltb a set_width))
  where
    go : Known (ltb a set_width) → ltb a set_width ≡ true
    go (was_true t) = t
    go (was_false t) = absurd (true≢false (ap is_some (sym h ∙ pick_no _ _ _ t)))

fit_other : (a : ℕ) → fit_of a ≡ None → ltb a set_width ≡ false
unfolding fit_of
fit_other a h = go (known (ltb a set_width))
  where
    go : Known (ltb a set_width) → ltb a set_width ≡ false
    go (was_true t) = absurd (true≢false (ap is_some (sym (pick_yes _ _ _ t) ∙ h)))
    go (was_false t) = t

module _ (net : Network) (entering flows : List ℕ) (positive marks : ℕ) (places : List ℕ) (searched : Searched net entering flows positive places)
    (fits : positive < 2 ^ set_width) (i : ℕ) (below : i < net.terminals) where
  abbrev place : ℕ
  place = get_or places i 0

  abbrev demand : ℕ
  demand = get_or net.demands i 0

  abbrev into : ℕ
  into = touching_by entering positive place

  abbrev fit : ℕ → Bool
  fit = fits_in net flows marks places i

  abbrev opens : ℕ → Bool
  opens = is_open_in net flows marks places i

  abbrev marked_opens : ℕ → Bool
  marked_opens = marked_open_in net flows marks places i

  into_at : (e : ℕ) → has_bit into e ≡ leaves net.heads flows place e
  into_at = touching_is net.heads flows entering positive place searched.enter searched.is_positive (searched.placed i below) fits searched.all

  -- the edges of the set that fit are those of the open carries
  open_at : (e : ℕ) → both (has_bit into e) (fit e) ≡ opens e
  unfolding is_open_in enters_in leaves both
  open_at e = go (known (fit e))
    where
      go : Known (fit e) → both (has_bit into e) (fit e) ≡ opens e
      go (was_true t) = rw (into_at e, lt-ltb 0 (get_or flows e 0) (fits_positive (has_bit marks e) (get_or flows e 0) demand (searched.needs i below) t))
      go (was_false t) = rw t (both_off (has_bit into e) ∙ sym (both_off (eqb (get_or net.heads e 0) place)))

  marked_at : (e : ℕ) → both (has_bit (common into marks) e) (fit e) ≡ marked_opens e
  unfolding marked_open_in both
  marked_at e = rw (has-common into marks e, ← open_at e) (swap (has_bit into e) (has_bit marks e) (fit e))
    where
      swap : (a b c : Bool) → both (both a b) c ≡ both b (both a c)
      swap true b c = refl
      swap false b c = sym (both_off b)

  -- none past the edges
  open_past : (e : ℕ) → net.edges ≤ e → opens e ≡ false
  unfolding is_open_in
  open_past e h = rw (searched.past e h, fits_zero (has_bit marks e) demand (searched.needs i below)) (both_off (enters_in net places i e))

  marked_past : (e : ℕ) → net.edges ≤ e → marked_opens e ≡ false
  unfolding marked_open_in
  marked_past e h = rw (open_past e h) (both_off (has_bit marks e))

  -- the searches of the sets
  abbrev marked_first : ℕ
  marked_first = lowest_fit_by flows marks demand (common into marks)

  abbrev first : ℕ
  first = lowest_fit_by flows marks demand into

  marked_is : marked_first ≡ lowest marked_opens 0 set_width
  unfolding lowest_fit_by
  marked_is = ap (λ (p : ℕ → Bool). lowest p 0 set_width) (λ k e. marked_at e k)

  first_is : first ≡ lowest opens 0 set_width
  unfolding lowest_fit_by
  first_is = ap (λ (p : ℕ → Bool). lowest p 0 set_width) (λ k e. open_at e k)

  -- what they find for terminal i: the edge of its carry, or that it has none
  abbrev pub Finds : Option ℕ → Type 0
  Finds (Some e) = (e < net.edges) × (has_open_in net flows marks places i ≡ true) × (e ≡ chosen_edge_in net flows marks places i)
  Finds None = has_open_in net flows marks places i ≡ false

  by_marked : ltb marked_first set_width ≡ true → Finds (Some marked_first)
  unfolding has_open_in open_edge_in chosen_edge_in marked_edge_in marked_open_in
  by_marked t =
      let at : lowest marked_opens 0 set_width < set_width = omega (arith, ltb-true _ _ t, marked_is) in
      let same = narrow marked_opens net.edges set_width searched.few marked_past at in
      let hit : opens (lowest marked_opens 0 set_width) ≡ true = both_right _ _ ((lowest_least marked_opens 0 set_width).hit at) in
      let found : lowest opens 0 net.edges ≤ lowest marked_opens 0 set_width = lowest_found opens 0 net.edges (lowest marked_opens 0 set_width) (omega arith) hit in
      let inside : lowest marked_opens 0 net.edges < net.edges = omega (arith, same.0, same.1) in (
        omega (arith, marked_is, same.1),
        lt-ltb (lowest opens 0 net.edges) net.edges (omega (arith, found, same.1)),
        marked_is ∙ sym same.0 ∙ sym (pick_yes _ _ _ (lt-ltb _ _ inside)),
      )

  by_lowest : ltb marked_first set_width ≡ false → Finds (fit_of first)
  unfolding has_open_in open_edge_in chosen_edge_in marked_edge_in fit_of
  by_lowest t = go (known (ltb first set_width))
    where
      none_marked : net.edges ≤ lowest marked_opens 0 net.edges
      none_marked = narrow_none marked_opens net.edges set_width searched.few marked_past (omega (arith, ltb-false _ _ t, marked_is))

      go : Known (ltb first set_width) → Finds (fit_of first)
      go (was_true u) =
          let at : lowest opens 0 set_width < set_width = omega (arith, ltb-true _ _ u, first_is) in
          let same = narrow opens net.edges set_width searched.few open_past at in
          rw (pick_yes _ (Some first) None u)
          (omega (arith, first_is, same.1), lt-ltb (lowest opens 0 net.edges) net.edges (omega (arith, same.0, same.1)), first_is ∙ sym same.0 ∙ sym (pick_no _ _ _ (le-ltb _ _ none_marked)))
      go (was_false u) =
          rw (pick_no _ (Some first) None u)
          (le-ltb _ _ (narrow_none opens net.edges set_width searched.few open_past (omega (arith, ltb-false _ _ u, first_is))))

  finds : Finds (fit_of (chosen_by flows marks set_width demand into))
  unfolding chosen_by fit_of
  finds = go (known (ltb marked_first set_width))
    where
      go : Known (ltb marked_first set_width) → Finds (fit_of (chosen_by flows marks set_width demand into))
      go (was_true t) = rw (pick_yes (ltb marked_first set_width) marked_first first t, pick_yes (ltb marked_first set_width) (Some marked_first) None t) (by_marked t)
      go (was_false t) = rw (pick_no (ltb marked_first set_width) marked_first first t) (by_lowest t)

  -- in the code's shape: the place, the demand, the set and the edge by the code's names
  pub finds_edge : (v d m : ℕ) (r : Option ℕ) → v ≡ place → d ≡ demand → m ≡ touching_by entering positive v → r ≡ fit_of (chosen_by flows marks set_width d m) → Finds r
  finds_edge v d m r at needs set is = rw (is, set, needs, at) finds

-- the edge chosen of a set, in the code's shape
module _ (flows : List ℕ) (marks demand set marked : ℕ) (r : Option ℕ) (is_marked : marked ≡ common set marks) (is : r ≡ fit_of (lowest_fit_by flows marks demand marked)) where
  pub chosen_marked : (e : ℕ) → r ≡ Some e → Some e ≡ fit_of (chosen_by flows marks set_width demand set)
  unfolding chosen_by
  chosen_marked e h = rw (← is_marked) (sym h ∙ is ∙ ap fit_of (sym (pick_yes _ _ _ (fit_some _ e (sym is ∙ h)))))

  pub chosen_other : r ≡ None → fit_of (lowest_fit_by flows marks demand set) ≡ fit_of (chosen_by flows marks set_width demand set)
  unfolding chosen_by
  chosen_other h = rw (← is_marked) (ap fit_of (sym (pick_no _ _ _ (fit_other _ (sym is ∙ h)))))

-- what was found, by its parts
module _ (net : Network) (flows : List ℕ) (marks : ℕ) (places : List ℕ) where
  abbrev first_open : ℕ
  first_open = open_terminal_in net flows marks places

  abbrev chosen_at : ℕ → ℕ
  chosen_at i = chosen_edge_in net flows marks places i

  -- the first terminal with an open carry, and that there is none
  module _ (i : ℕ) (p : i ≡ first_open) where
    some_yes : i < net.terminals → some_open_in net flows marks places ≡ true
    unfolding some_open_in
    some_yes h = lt-ltb first_open net.terminals (rw p at h)

    some_no : net.terminals ≤ i → some_open_in net flows marks places ≡ false
    unfolding some_open_in
    some_no h = le-ltb first_open net.terminals (rw p at h)

    pub found_carry : (e : ℕ) → i < net.terminals → e ≡ chosen_at i
        → (record { terminal = i; edge = e } ≡ open_carry_in net flows marks places) × (true ≡ some_open_in net flows marks places)
    unfolding open_carry_in
    found_carry e h q =
        let edge : e ≡ pick (some_open_in net flows marks places) (chosen_at first_open) net.edges =
        q ∙ ap chosen_at p ∙ sym (pick_yes _ (chosen_at first_open) net.edges (some_yes h)) in
        (λ t. record { terminal = p t; edge = edge t }, sym (some_yes h))

    pub found_no_carry : net.terminals ≤ i → i ≤ net.terminals
        → (record { terminal = net.terminals; edge = net.edges } ≡ open_carry_in net flows marks places) × (false ≡ some_open_in net flows marks places)
    unfolding open_carry_in
    found_no_carry h l =
        let all : net.terminals ≡ i = omega arith in
        let edge : net.edges ≡ pick (some_open_in net flows marks places) (chosen_at first_open) net.edges =
        sym (pick_no _ (chosen_at first_open) net.edges (some_no h)) in
        (λ t. record { terminal = (all ∙ p) t; edge = edge t }, sym (some_no h))

  -- a carry that the code has found, or none
  module _ (r : Option Relocation) (e : found_of net.terminals net.edges r ≡ open_carry_in net flows marks places) (some : is_some r ≡ some_open_in net flows marks places) where
    pub open_found : (c : Relocation) → r ≡ Some c → (some_open_in net flows marks places ≡ true) × (c.terminal ≡ first_open) × (c.edge ≡ chosen_at first_open)
    unfolding open_carry_in
    open_found c h =
        let yes : some_open_in net flows marks places ≡ true = sym some ∙ ap is_some h in
        let is : record { terminal = c.terminal; edge = c.edge } ≡ open_carry_in net flows marks places = ap (found_of net.terminals net.edges) (sym h) ∙ e in
        (yes, ap (λ (f : Found). f.terminal) is, ap (λ (f : Found). f.edge) is ∙ pick_yes _ _ _ yes)

    pub none_found : r ≡ None → some_open_in net flows marks places ≡ false
    none_found h = sym some ∙ ap is_some h

-- no search looks at the tails, the text's flows or the homes
pub open_carry_bare : (net : Network) (flows : List ℕ) (marks positive : ℕ) (places : List ℕ)
    → open_carry_in (net_of (frame_of net marks positive 0) [] net.heads net.demands) flows marks places ≡ open_carry_in net flows marks places
unfolding open_carry_in chosen_edge_in marked_edge_in marked_open_in some_open_in open_terminal_in has_open_in open_edge_in is_open_in enters_in
open_carry_bare net flows marks positive places = refl

pub some_open_bare : (net : Network) (flows : List ℕ) (marks positive : ℕ) (places : List ℕ)
    → some_open_in (net_of (frame_of net marks positive 0) [] net.heads net.demands) flows marks places ≡ some_open_in net flows marks places
unfolding some_open_in open_terminal_in has_open_in open_edge_in is_open_in enters_in
some_open_bare net flows marks positive places = refl

-- what the search leans on holds of the parts of a board in play
pub bounds_searched : (net : Network) (flows places entering : List ℕ) (marks positive : ℕ) → InBounds net flows places → Incident net.heads entering → PositiveSet flows positive
    → Searched (net_of (frame_of net marks positive 0) [] net.heads net.demands) entering flows positive places
bounds_searched net flows places entering marks positive bounds enter is_positive = record {
  enter = enter;
  is_positive = is_positive;
  all = bounds.all;
  few = bounds.edges;
  past = bounds.past;
  placed = bounds.placed;
  needs = bounds.needs;
}
