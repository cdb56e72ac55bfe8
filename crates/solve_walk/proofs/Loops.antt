-- The loops over the codes of a walk, in the code's shape: one round of the search for a vertex and of the copy of the
-- last steps, and what both end with.
use mathlib.Core.Path.{◌≡◌, refl, sym, ap, ◌∙◌}
use mathlib.Core.Bool.{Bool}
use mathlib.Core.List.{List, [], ◌∷◌, ◌++◌}
use Prim.Native.Nat.{ℕ, zero, suc, ◌+◌, ◌-◌, ◌≤◌, ◌<◌}
use native.Mathlib.Numerals.{add-one}
use native.Mathlib.Omega.{arith}
use lib.ListN.{length, get_or, set, take, drop, replicate, length-drop}
use lib.Seq.{sets, sets-eq, length-take-le, get_or-take, take-suc-set, take-add, drop_at}
use Rattle.board.specs.Limits.{max_vertices, max_edges}
use Rattle.lists.specs.Lists.{index_of}
use Rattle.lists.proofs.Laws.{index_hit, index_miss, index_end}
use Rattle.graph_flows.specs.Trails.{Step, start_of}
use Rattle.move_cycle.specs.Steps.{code_up, code_step, code_steps, step_code, codes_of, stride}
use Rattle.move_cycle.proofs.Codes.{steps_length, steps_join, codes_steps, stride_code}
use Rattle.solve_walk.specs.declared.Walk.{Walk}
use Rattle.solve_walk.specs.Walk.{starts_of, packed}

-- the steps of a walk so far have their places
pub held : (codes : List ℕ) (n : ℕ) → length codes ≡ max_vertices → n ≤ max_vertices → n ≤ length codes
held codes n size h = omega (arith, size, h)

pub last_held : (codes : List ℕ) (n k : ℕ) → length codes ≡ max_vertices → k ≤ n → n ≤ max_vertices → k + (n - k) ≤ length codes
last_held codes n k size h l = omega (arith, size, h, l)

-- the first n codes are n steps
pub steps_held : (codes : List ℕ) (n : ℕ) → n ≤ length codes → length (code_steps (take n codes)) ≡ n
steps_held codes n fits = steps_length (take n codes) ∙ length-take-le n codes fits

-- the steps of codes
steps_drop : (k : ℕ) (cs : List ℕ) → drop k (code_steps cs) ≡ code_steps (drop k cs)
unfolding code_steps
steps_drop zero cs = refl
steps_drop (suc k) [] = refl
steps_drop (suc k) (b ∷ cs) = steps_drop k cs

-- one step more
pub walked_more : (codes : List ℕ) (n : ℕ) (ups : Bool) (e : ℕ) → n < length codes → e < code_up
    → code_steps (take (n + 1) (set codes n (step_code (stride ups e)))) ≡ code_steps (take n codes) ++ (stride ups e ∷ [])
unfolding code_steps
walked_more codes n ups e h l =
    let c = step_code (stride ups e) in
    rw (add-one n, take-suc-set codes n c h, steps_join (take n codes) (c ∷ []), stride_code ups e l)

-- the starts of steps, and of the steps of codes
module _ (tails heads : List ℕ) where
  pub starts_length : (w : List Step) → length (starts_of tails heads w) ≡ length w
  starts_length [] = refl
  starts_length (s ∷ w) = ap suc (starts_length w)

  starts_at : (cs : List ℕ) (i : ℕ) → i < length cs → get_or (starts_of tails heads (code_steps cs)) i 0 ≡ start_of tails heads (code_step (get_or cs i 0))
  unfolding code_steps
  starts_at [] i h = absurd (omega arith)
  starts_at (b ∷ cs) zero h = refl
  starts_at (b ∷ cs) (suc i) h = starts_at cs i (omega arith)

-- the search for v among the starts of the first n steps, i of which have been passed
module _ (tails heads codes : List ℕ) (n v i total : ℕ) (fits : n ≤ length codes) where
  abbrev starts : List ℕ
  starts = starts_of tails heads (code_steps (take n codes))

  size : length starts ≡ n
  size = starts_length tails heads (code_steps (take n codes)) ∙ steps_held codes n fits

  here : i < n → get_or starts i 0 ≡ start_of tails heads (code_step (get_or codes i 0))
  here h =
      let l : i < length (take n codes) = omega (arith, length-take-le n codes fits, h) in
      starts_at tails heads (take n codes) i l ∙ ap (λ (b : ℕ). start_of tails heads (code_step b)) (get_or-take n codes i 0 h)

  pub met_here : i + index_of v (drop i starts) ≡ total → i < n → start_of tails heads (code_step (get_or codes i 0)) ≡ v → i ≡ total
  met_here inv h e = index_hit starts v i total inv (omega (arith, size, h)) (here h ∙ e)

  pub met_later : i + index_of v (drop i starts) ≡ total → i < n → (start_of tails heads (code_step (get_or codes i 0)) ≡ v → ⊥)
      → i + 1 + index_of v (drop (i + 1) starts) ≡ total
  met_later inv h e = index_miss starts v i total inv (omega (arith, size, h)) (λ q. e (sym (here h) ∙ q))

  pub met_nowhere : i + index_of v (drop i starts) ≡ total → n ≤ i → i ≡ total
  met_nowhere inv h = index_end starts v i total inv (omega (arith, size, h))

-- the m codes from place k on
abbrev pub last_of : List ℕ → ℕ → ℕ → List ℕ
last_of codes k m = take m (drop k codes)

-- the copy of them to the start of a buffer
module _ (codes : List ℕ) (k m : ℕ) (fits : k + m ≤ length codes) where
  abbrev last : List ℕ
  last = last_of codes k m

  last_length : length last ≡ m
  last_length = length-take-le m (drop k codes) (omega (arith, length-drop k codes, fits))

  pub copied : (buf new : List ℕ) → m ≤ length buf → new ≡ last → new ++ drop m buf ≡ sets buf 0 last
  copied buf new inside made =
      let room : 0 + length last ≤ length buf = omega (arith, last_length, inside) in
      let after : m ≡ 0 + length last = omega (arith, last_length) in
      rw (made, sets-eq last buf 0 room) (ap (λ (n : ℕ). last ++ drop n buf) after)

  -- the last of the first k + m codes
  pub last_codes : drop k (take (k + m) codes) ≡ last
  last_codes = rw (take-add k m codes) (drop_at (take k codes) last k (length-take-le k codes (omega arith)))

-- the copy is the record of the last of the first n steps
pub walk_from_made : (codes : List ℕ) (n k : ℕ) (buf : List ℕ) → buf ≡ sets (replicate max_edges 0) 0 (last_of codes k (n - k)) → k ≤ n → n ≤ length codes
    → ◌≡◌ {A = Walk} (record { count = n - k; steps = buf }) (packed (drop k (code_steps (take n codes))))
walk_from_made codes n k buf made h l = λ i. record { count = counts i; steps = fills i }
  where
    first : List ℕ
    first = take n codes

    fits : k + (n - k) ≤ length codes
    fits = omega (arith, h, l)

    whole : k + (n - k) ≡ n
    whole = omega (arith, h)

    counts : n - k ≡ length (drop k (code_steps first))
    counts = omega (arith, length-drop k (code_steps first), steps_held codes n l)

    last_steps : last_of codes k (n - k) ≡ codes_of (drop k (code_steps first))
    last_steps =
        sym (last_codes codes k (n - k) fits)
        ∙ ap (λ (m : ℕ). drop k (take m codes)) whole
        ∙ sym (codes_steps (drop k first))
        ∙ ap codes_of (sym (steps_drop k first))

    fills : buf ≡ sets (replicate max_edges 0) 0 (codes_of (drop k (code_steps first)))
    fills = made ∙ ap (sets (replicate max_edges 0) 0) last_steps
