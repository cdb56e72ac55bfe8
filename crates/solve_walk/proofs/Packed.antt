-- A walk in a record and its steps are the same thing: codes have room for their edges, since every edge that the
-- search chooses is at most the number of edges; and each step of the walk uses up one of the vertices not yet seen, so that the cycle is no longer than
-- they are many.
use mathlib.Core.Path.{◌≡◌, refl, sym, ap, ◌∙◌}
use mathlib.Core.Bool.{Bool, false}
use mathlib.Core.List.{List, [], ◌∷◌, ◌++◌}
use Prim.Native.Nat.{ℕ, zero, suc, ◌+◌, ◌≤◌, ◌<◌}
use native.Mathlib.Omega.{arith}
use lib.Dec.{ltb}
use lib.ListN.{length, get_or, take, drop, replicate, length-append, length-drop, length-replicate}
use lib.Seq.{sets, sets-eq, take-append_seam}
use Rattle.board.specs.Limits.{max_edges}
use Rattle.lists.specs.Lists.{lowest}
use Rattle.lists.proofs.Laws.{Known, was_true, was_false, known}
use Rattle.lists.proofs.Lowest.{lowest_least}
use Rattle.graph_flows.specs.Trails.{Step, down, up, edge_of}
use Rattle.move_cycle.specs.Steps.{code_up, code_steps, codes_of}
use Rattle.move_cycle.proofs.Codes.{step_code_lem, codes_length}
use Rattle.solve_walk.specs.Walk.{another, parts, first_met, down_walk, up_walk, cycle_of, packed}
use Rattle.solve_walk.specs.Inner.{walked}

-- every step's edge is at most m
abbrev pub EdgesTo : ℕ → List Step → Type 0
EdgesTo m [] = Unit {0}
EdgesTo m (s ∷ w) = (edge_of s ≤ m) × EdgesTo m w

steps_codes : (m : ℕ) (w : List Step) → m < code_up → EdgesTo m w → code_steps (codes_of w) ≡ w
unfolding code_steps
steps_codes m [] h b = refl
steps_codes m (s ∷ w) h b = let l = b.0 in rw (step_code_lem s (omega (arith, l, h)), steps_codes m w h b.1) refl

-- what is stored at the start of a list is what it then starts with
stored_take : (buf xs : List ℕ) → length xs ≤ length buf → take (length xs) (sets buf 0 xs) ≡ xs
stored_take buf xs h =
    let fits : 0 + length xs ≤ length buf = omega arith in
    rw (sets-eq xs buf 0 fits) (take-append_seam xs (drop (0 + length xs) buf))

-- the walk in the record of a walk
pub walked-packed : (m : ℕ) (w : List Step) → m < code_up → EdgesTo m w → length w ≤ max_edges → walked (packed w) ≡ w
walked-packed m w h b l =
    let size = codes_length w in
    let fits : length (codes_of w) ≤ length {A = ℕ} (replicate max_edges 0) = omega (arith, size, l, length-replicate {A = ℕ} max_edges 0) in
    ap (λ (n : ℕ). code_steps (take n (sets (replicate max_edges 0) 0 (codes_of w)))) (sym size)
    ∙ ap code_steps (stored_take (replicate max_edges 0) (codes_of w) fits)
    ∙ steps_codes m w h b

-- more steps, and fewer
edges_more : (m : ℕ) (w : List Step) (s : Step) → EdgesTo m w → edge_of s ≤ m → EdgesTo m (w ++ (s ∷ []))
edges_more m [] s b h = (h, tt)
edges_more m (t ∷ w) s b h = (b.0, edges_more m w s b.1 h)

edges_drop : (m k : ℕ) (w : List Step) → EdgesTo m w → EdgesTo m (drop k w)
edges_drop m zero w b = b
edges_drop m (suc k) [] b = tt
edges_drop m (suc k) (s ∷ w) b = edges_drop m k w b.1

-- the lowest of k numbers from 0 on is k at most
lowest-most : (p : ℕ → Bool) (k : ℕ) → lowest p 0 k ≤ k
lowest-most p k = let h = (lowest_least p 0 k).high in omega (arith, h)

pub another-most : (ends flows : List ℕ) (v x : ℕ) → another ends flows v x ≤ length flows
unfolding another
another-most ends flows v x = lowest-most _ (length flows)

module _ (tails heads flows : List ℕ) where
  -- the edges to go down and up by
  abbrev falls : ℕ → ℕ → ℕ
  falls = another tails flows

  abbrev climbs : ℕ → ℕ → ℕ
  climbs = another heads flows

  -- a list of steps as the walk leaves it: edges of the network, or one past them, and n steps at most
  record StepsLeft (n : ℕ) (w : List Step) : Type 0 where
    edges : EdgesTo (length flows) w
    short : length w ≤ n

  left_drop : (n k : ℕ) (w : List Step) → StepsLeft n w → StepsLeft n (drop k w)
  left_drop n k w b = record { edges = edges_drop (length flows) k w b.edges; short = omega (arith, length-drop k w, b.short) }

  -- one step more
  left_more : (n k : ℕ) (w : List Step) (s : Step) → StepsLeft n w → length w + suc k ≤ n → edge_of s ≤ length flows → StepsLeft n (w ++ (s ∷ []))
  left_more n k w s b h e = record { edges = edges_more (length flows) w s b.edges e; short = omega (arith, length-append w (s ∷ []), h) }

  -- the room that is left after it
  room : (n k : ℕ) (w : List Step) (s : Step) → length w + suc k ≤ n → length (w ++ (s ∷ [])) + k ≤ n
  room n k w s h = omega (arith, length-append w (s ∷ []), h)

  -- what a walk with k vertices not yet seen leaves
  abbrev Leaves : ℕ → (ℕ → List Step → ℕ → ℕ → List Step) → ℕ → Type 0
  Leaves n walk k = (w : List Step) (x v : ℕ) → StepsLeft n w → length w + k ≤ n → StepsLeft n (walk k w x v)

  abbrev downs : ℕ → List Step → ℕ → ℕ → List Step
  downs = down_walk tails heads flows falls climbs

  abbrev ups : ℕ → List Step → ℕ → ℕ → List Step
  ups = up_walk tails heads flows falls climbs

  -- one step down, one step up
  module _ (k n : ℕ) (d : Leaves n downs k) (u : Leaves n ups k) (w : List Step) (x v : ℕ) (b : StepsLeft n w) (h : length w + suc k ≤ n) where
    gone_down : StepsLeft n (downs k (w ++ (down (falls v x) ∷ [])) (falls v x) (get_or heads (falls v x) 0))
    gone_down =
        let s = down (falls v x) in
        d (w ++ (s ∷ [])) (falls v x) (get_or heads (falls v x) 0) (left_more n k w s b h (another-most tails flows v x)) (room n k w s h)

    gone_up : StepsLeft n (ups k (w ++ (up (climbs v x) ∷ [])) (climbs v x) (get_or tails (climbs v x) 0))
    gone_up =
        let s = up (climbs v x) in
        u (w ++ (s ∷ [])) (climbs v x) (get_or tails (climbs v x) 0) (left_more n k w s b h (another-most heads flows v x)) (room n k w s h)

    downs_on : StepsLeft n (downs (suc k) w x v)
    unfolding down_walk
    downs_on = met (known (ltb (first_met tails heads w v) (length w)))
      where
        falling : Known (ltb (falls v x) (length flows)) → ltb (first_met tails heads w v) (length w) ≡ false → StepsLeft n (downs (suc k) w x v)
        falling (was_true t) m = rw (m, t, down_walk) gone_down
        falling (was_false t) m = rw (m, t, down_walk) gone_up

        met : Known (ltb (first_met tails heads w v) (length w)) → StepsLeft n (downs (suc k) w x v)
        met (was_true t) = rw (t, down_walk) (left_drop n (first_met tails heads w v) w b)
        met (was_false t) = falling (known (ltb (falls v x) (length flows))) t

    ups_on : StepsLeft n (ups (suc k) w x v)
    unfolding down_walk
    ups_on = met (known (ltb (first_met tails heads w v) (length w)))
      where
        parting : Known (parts tails flows v) → ltb (first_met tails heads w v) (length w) ≡ false → StepsLeft n (ups (suc k) w x v)
        parting (was_true t) m = rw (m, t, up_walk) gone_down
        parting (was_false t) m = rw (m, t, up_walk) gone_up

        met : Known (ltb (first_met tails heads w v) (length w)) → StepsLeft n (ups (suc k) w x v)
        met (was_true t) = rw (t, up_walk) (left_drop n (first_met tails heads w v) w b)
        met (was_false t) = parting (known (parts tails flows v)) t

  walks_leave : (k n : ℕ) → Leaves n downs k × Leaves n ups k
  unfolding down_walk
  walks_leave zero n = (λ w x v b h. left_drop n (first_met tails heads w v) w b, λ w x v b h. left_drop n (first_met tails heads w v) w b)
  walks_leave (suc k) n =
      let ih = walks_leave k n in
      (downs_on k n ih.0 ih.1, ups_on k n ih.0 ih.1)

  cycle_left : (n source : ℕ) → StepsLeft n (cycle_of tails heads flows n source)
  unfolding cycle_of
  cycle_left n source = (walks_leave n n).0 [] (length flows) source (record { edges = tt; short = omega arith }) (omega arith)

  pub cycle_walked : (n source : ℕ) → n ≤ max_edges → length flows < code_up
      → walked (packed (cycle_of tails heads flows n source)) ≡ cycle_of tails heads flows n source
  cycle_walked n source h l =
      let c = cycle_left n source in
      walked-packed (length flows) (cycle_of tails heads flows n source) l c.edges (omega (arith, c.short, h))

  pub cycle_short : (n source : ℕ) → length (cycle_of tails heads flows n source) ≤ n
  cycle_short n source = (cycle_left n source).short
