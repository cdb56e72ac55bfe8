-- Why the search may go on at the terminal of the last carry. That carry was the lowest open one, so no lower terminal had one. It lowers the flow of one edge: an
-- unmarked edge that was too low for a lower terminal stays too low, and a marked edge, whose flow was the demand, is empty now. All else is as it was for them.
use mathlib.Core.Path.{◌≡◌, sym, ap, ◌∙◌}
use mathlib.Core.Bool.{Bool, true, false, true≢false}
use mathlib.Core.List.{List}
use mathlib.Core.Logic.{◌⊎◌, inl, inr}
use Prim.Native.Nat.{ℕ, ◌-◌, ◌+◌, ◌<◌, ◌≤◌}
use native.Mathlib.Omega.{arith}
use lib.Dec.{ltb, eqb}
use lib.ListN.{length, get_or, set}
use lib.Seq.{get_or-set_same, get_or-set_other}
use borrow.Author.Tests.{ltb-true, ltb-false, le-ltb, eqb-true, leb-false, lt-leb, ne_eqb}
use Rattle.lists.specs.Choice.{pick, both}
use Rattle.lists.specs.Lists.{lowest}
use Rattle.lists.proofs.Laws.{Known, was_true, was_false, known, lt_or_ge, eq_or_ne, pick_yes, pick_no, both_right}
use Rattle.lists.proofs.Lowest.{Least, lowest_least}
use Rattle.sets.specs.Sets.{no_word, has_bit}
use Rattle.sets.proofs.Scan.{lowest_is}
use Rattle.board.specs.declared.Network.{Network}
use Rattle.move_carry.specs.Opens.{flow_fits, enters_in, fits_in, is_open_in, open_edge_in, has_open_in, open_terminal_in, some_open_in}
use Rattle.move_carry.specs.Carries.{carried_in}
use Rattle.move_carry.specs.Frames.{frame_of, net_of}
use Rattle.solve_carry.specs.Search.{marked_open_in, marked_edge_in, chosen_edge_in}
use Rattle.solve_carry.specs.Inner.{Resumes}

module _ (net : Network) (flows : List ℕ) (marks : ℕ) (places : List ℕ) where
  abbrev opens : ℕ → ℕ → Bool
  opens = is_open_in net flows marks places

  -- a search from terminal i on finds what the whole search finds
  pub resumed : (i : ℕ) → Resumes net flows marks places i
      → lowest (has_open_in net flows marks places) i (net.terminals - i) ≡ open_terminal_in net flows marks places
  unfolding open_terminal_in
  resumed i r =
      sym (lowest_is p n (lowest p i (n - i)) (omega (arith, found.high, r.inside)) (λ l. found.hit (omega (arith, l, r.inside))) (λ j l. at j l (lt_or_ge j i)))
    where
      p : ℕ → Bool
      p = has_open_in net flows marks places

      n : ℕ
      n = net.terminals

      found : Least p i (i + (n - i)) (lowest p i (n - i))
      found = lowest_least p i (n - i)

      at : (j : ℕ) → j < lowest p i (n - i) → (j < i) ⊎ (i ≤ j) → p j ≡ false
      at j l (inl b) = r.none_below j b
      at j l (inr b) = found.miss j b l

  -- a terminal has no open carry where it has none over any edge
  not_open : (j : ℕ) → has_open_in net flows marks places j ≡ false → (e : ℕ) → e < net.edges → opens j e ≡ false
  unfolding has_open_in open_edge_in
  not_open j h e l =
      let past : net.edges ≤ lowest (opens j) 0 net.edges = ltb-false _ _ h in
      (lowest_least (opens j) 0 net.edges).miss e (omega arith) (omega arith)

  none_open : (j : ℕ) → ((e : ℕ) → e < net.edges → opens j e ≡ false) → has_open_in net flows marks places j ≡ false
  unfolding has_open_in open_edge_in
  none_open j h = le-ltb _ _ (go (lt_or_ge (lowest (opens j) 0 net.edges) net.edges))
    where
      go : (lowest (opens j) 0 net.edges < net.edges) ⊎ (net.edges ≤ lowest (opens j) 0 net.edges) → net.edges ≤ lowest (opens j) 0 net.edges
      go (inl l) = absurd (true≢false (sym ((lowest_least (opens j) 0 net.edges).hit (omega (arith, l))) ∙ h _ l))
      go (inr l) = l

-- a carry that is open, of a terminal and over an edge of the network
pub record Chosen (net : Network) (flows : List ℕ) (marks : ℕ) (places : List ℕ) (i e : ℕ) : Type 0 where
  pub terminal : i < net.terminals
  pub edge : e < net.edges
  pub opens : is_open_in net flows marks places i e ≡ true

module _ (net : Network) (flows : List ℕ) (marks : ℕ) (places : List ℕ) (some : some_open_in net flows marks places ≡ true) where
  abbrev lowest_one : ℕ
  lowest_one = open_terminal_in net flows marks places

  -- the lowest terminal with an open carry has one over the chosen edge
  pub chosen : Chosen net flows marks places lowest_one (chosen_edge_in net flows marks places lowest_one)
  unfolding some_open_in open_terminal_in has_open_in chosen_edge_in open_edge_in marked_edge_in marked_open_in
  chosen = go (known (ltb marked net.edges))
    where
      i : ℕ
      i = lowest_one

      marked : ℕ
      marked = marked_edge_in net flows marks places i

      first : ℕ
      first = open_edge_in net flows marks places i

      low : i < net.terminals
      low = ltb-true _ _ some

      found : first < net.edges
      found = ltb-true _ _ ((lowest_least (has_open_in net flows marks places) 0 net.terminals).hit (omega (arith, low)))

      go : Known (ltb marked net.edges) → Chosen net flows marks places i (chosen_edge_in net flows marks places i)
      go (was_true t) =
          let m : marked < net.edges = ltb-true _ _ t in
          rw (pick_yes (ltb marked net.edges) marked first t)
          (record {
            terminal = low;
            edge = m;
            opens = both_right (has_bit marks marked) _ ((lowest_least (marked_open_in net flows marks places i) 0 net.edges).hit (omega (arith, m)));
          })
      go (was_false t) =
          rw (pick_no (ltb marked net.edges) marked first t)
          (record { terminal = low; edge = found; opens = (lowest_least (is_open_in net flows marks places i) 0 net.edges).hit (omega (arith, found)) })

  -- no lower terminal has one
  lower_none : (j : ℕ) → j < lowest_one → has_open_in net flows marks places j ≡ false
  unfolding open_terminal_in
  lower_none j l = (lowest_least (has_open_in net flows marks places) 0 net.terminals).miss j (omega arith) l

-- a flow that does not fit a demand above 0, after a carry of the demand d over its edge
lowered_unfit : (mark : Bool) (flow d demand : ℕ) → 0 < demand → flow_fits mark flow d ≡ true → flow_fits mark flow demand ≡ false → flow_fits mark (flow - d) demand ≡ false
unfolding flow_fits pick
lowered_unfit true flow d demand h fits unfit = let e : flow ≡ d = eqb-true flow d fits in ne_eqb (flow - d) demand (λ q. omega (arith, e, q, h))
lowered_unfit false flow d demand h fits unfit = lt-leb demand (flow - d) (omega (arith, leb-false demand flow unfit))

module _ (net : Network) (flows : List ℕ) (marks : ℕ) (places : List ℕ) (needs : (i : ℕ) → i < net.terminals → 0 < get_or net.demands i 0)
    (long : net.edges ≤ length flows) (i e : ℕ) (c : Chosen net flows marks places i e) where
  abbrev demand : ℕ → ℕ
  demand j = get_or net.demands j 0

  abbrev flows_then : List ℕ
  flows_then = set flows e (get_or flows e 0 - demand i)

  abbrev places_then : List ℕ
  places_then = set places i (get_or net.tails e 0)

  -- no carry of a lower terminal opens
  module _ (j : ℕ) (l : j < i) where
    entered : (k : ℕ) → enters_in net places_then j k ≡ enters_in net places j k
    unfolding enters_in
    entered k = ap (eqb (get_or net.heads k 0)) (get_or-set_other places i j _ 0 (λ q. omega (arith, q)))

    stays_shut : (k : ℕ) → is_open_in net flows marks places j k ≡ false → is_open_in net flows_then marks places_then j k ≡ false
    unfolding is_open_in both
    stays_shut k h = rw (entered k) (go (eq_or_ne k e))
      where
        go : (k ≡ e) ⊎ (k ≡ e → ⊥) → both (enters_in net places j k) (fits_in net flows_then marks places_then j k) ≡ false
        go (inr n) = rw (get_or-set_other flows e k (get_or flows e 0 - demand i) 0 n) h
        go (inl q) = at (known (enters_in net places j k))
          where
            at : Known (enters_in net places j k) → both (enters_in net places j k) (fits_in net flows_then marks places_then j k) ≡ false
            at (was_false t) = rw t
            at (was_true t) = rw t (unfit q)
              where
                old : fits_in net flows marks places j k ≡ false
                old = rw t at h

                unfit : k ≡ e → fits_in net flows_then marks places_then j k ≡ false
                unfit p =
                    rw (p, get_or-set_same flows e (get_or flows e 0 - demand i) 0 (omega (arith, c.edge, long)))
                    (lowered_unfit (has_bit marks e) (get_or flows e 0) (demand i) (demand j) (needs j (omega (arith, l, c.terminal))) (both_right (enters_in net places i e) _ c.opens) (rw p at old))

  pub resumes_after : ((j : ℕ) → j < i → has_open_in net flows marks places j ≡ false) → Resumes net flows_then marks places_then i
  resumes_after none = record {
    inside = omega (arith, c.terminal);
    none_below = λ j l. none_open net flows_then marks places_then j (λ k b. stays_shut j l k (not_open net flows marks places j (none j l) k b));
  }

-- after the solver's carry
pub carry_resumes : (net : Network) (flows : List ℕ) (marks : ℕ) (places : List ℕ) → ((i : ℕ) → i < net.terminals → 0 < get_or net.demands i 0) → net.edges ≤ length flows
    → some_open_in net flows marks places ≡ true
    → let i = open_terminal_in net flows marks places in
    let after = carried_in net flows marks places i (chosen_edge_in net flows marks places i) in
    Resumes net after.flows marks after.places i
unfolding carried_in
carry_resumes net flows marks places needs long some =
    resumes_after net flows marks places needs long _ _ (chosen net flows marks places some) (lower_none net flows marks places some)

-- no search looks at the tails, the text's flows or the homes
pub resumes_bare : (net : Network) (tails flows : List ℕ) (marks : ℕ) (places : List ℕ) (i : ℕ) → Resumes net flows marks places i
    → Resumes (net_of (frame_of net no_word no_word 0) tails net.heads net.demands) flows marks places i
unfolding has_open_in open_edge_in is_open_in enters_in
resumes_bare net tails flows marks places i r = record { inside = r.inside; none_below = r.none_below }

-- a search from the first terminal on
pub resumes_first : (net : Network) (flows : List ℕ) (marks : ℕ) (places : List ℕ) → Resumes net flows marks places 0
resumes_first net flows marks places = record { inside = omega arith; none_below = λ j l. absurd (omega (arith, l)) }
