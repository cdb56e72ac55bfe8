-- A change along a trail: one step from a to b adds x to what enters b beyond what leaves it, and takes x from that of a.
-- So along a trail only its two ends change, and along a closed trail no vertex does. Each edge is stepped over once, so it changes by x once.
use mathlib.Core.Path.{◌≡◌, refl, ap, sym, ◌∙◌}
use mathlib.Core.Bool.{true, false, true≢false}
use mathlib.Core.Logic.{◌⊎◌, inl, inr, ◌≢◌}
use mathlib.Core.List.{List, [], ◌∷◌}
use Prim.Native.Nat.{ℕ, ◌+◌, ◌-◌, ◌<◌}
use native.Mathlib.Omega.{arith}
use lib.ListN.{length, get_or, set, length-set}
use lib.Seq.{get_or-set_same, get_or-set_other}
use Rattle.lists.specs.Lists.{keyed, sum_at}
use Rattle.lists.specs.Members.{has}
use Rattle.lists.proofs.Pigeon.{has_nothing, has_here, has_later, has_cases, misses_both}
use Rattle.graph_flows.specs.Trails.{Step, down, up, edge_of, edges_of, In, start_of, end_of, Trail, stay, go}
use Rattle.graph_flows.specs.Inner.{changed_along, Room, Fits}
use Rattle.graph_flows.proofs.Sums.{keyed_add, sum-set}

-- the new flow of a step's edge
abbrev pub after : List ℕ → ℕ → Step → ℕ
after flows x (down e) = get_or flows e 0 - x
after flows x (up e) = get_or flows e 0 + x

-- one step, then the others
changed_step : (flows : List ℕ) (x : ℕ) (s : Step) (w : List Step) → changed_along flows x (s ∷ w) ≡ changed_along (set flows (edge_of s) (after flows x s)) x w
unfolding changed_along
changed_step flows x (down e) w = refl
changed_step flows x (up e) w = refl

pub changed-length : (flows : List ℕ) (x : ℕ) (w : List Step) → length (changed_along flows x w) ≡ length flows
unfolding changed_along
changed-length flows x [] = refl
changed-length flows x (s ∷ w) =
    ap length (changed_step flows x s w) ∙ changed-length (set flows (edge_of s) (after flows x s)) x w ∙ length-set flows (edge_of s) (after flows x s)

-- another edge's flow does not matter to the room of a step
room_set : (flows : List ℕ) (x e y : ℕ) (s : Step) → e ≢ edge_of s → Room flows x s → Room (set flows e y) x s
room_set flows x e y (down d) n r = rw (get_or-set_other flows e d y 0 (λ q. n (sym q))) r
room_set flows x e y (up d) n r = tt

fits_set : (flows : List ℕ) (x e y : ℕ) (w : List Step) → has e (edges_of w) ≡ false → Fits flows x w → Fits (set flows e y) x w
fits_set flows x e y [] h f = tt
fits_set flows x e y (s ∷ w) h (i, r, d, f) =
    let m = misses_both e (edge_of s) (edges_of w) h in
    (rw (length-set flows e y) i, room_set flows x e y s m.0 r, d, fits_set flows x e y w m.1 f)

fits_rest : (flows : List ℕ) (x : ℕ) (s : Step) (w : List Step) → Fits flows x (s ∷ w) → Fits (set flows (edge_of s) (after flows x s)) x w
fits_rest flows x s w (i, r, d, f) = fits_set flows x (edge_of s) (after flows x s) w d f

-- the sums
module _ (tails heads : List ℕ) where
  one_step : (flows : List ℕ) (x v : ℕ) (s : Step) → length tails ≡ length flows → length heads ≡ length flows → edge_of s < length flows → Room flows x s
      → let now = set flows (edge_of s) (after flows x s) in
      sum_at heads now v + sum_at tails flows v + keyed (end_of tails heads s) v x ≡ sum_at heads flows v + sum_at tails now v + keyed (start_of tails heads s) v x
  one_step flows x v (down e) lt lh i room =
      let f = get_or flows e 0 in
      let split : f - x + x ≡ f = omega arith in
      let p = sum-set heads flows e (f - x) v (omega arith) i in
      let q = sum-set tails flows e (f - x) v (omega arith) i in
      let r = rw split at (keyed_add (get_or heads e 0) v (f - x) x) in
      let s = rw split at (keyed_add (get_or tails e 0) v (f - x) x) in
      omega arith
  one_step flows x v (up e) lt lh i room =
      let f = get_or flows e 0 in
      let p = sum-set heads flows e (f + x) v (omega arith) i in
      let q = sum-set tails flows e (f + x) v (omega arith) i in
      let r = keyed_add (get_or heads e 0) v f x in
      let s = keyed_add (get_or tails e 0) v f x in
      omega arith

  pub telescoped : {a b : ℕ} {w : List Step} (flows : List ℕ) (x v : ℕ) → Trail tails heads a w b → Fits flows x w
      → length tails ≡ length flows → length heads ≡ length flows
      → sum_at heads (changed_along flows x w) v + sum_at tails flows v + keyed b v x ≡ sum_at heads flows v + sum_at tails (changed_along flows x w) v + keyed a v x
  unfolding changed_along
  telescoped flows x v stay f lt lh = refl
  telescoped {w = _ ∷ w} flows x v (go s e t) f lt lh =
      let now = set flows (edge_of s) (after flows x s) in
      let len : length now ≡ length flows = length-set flows (edge_of s) (after flows x s) in
      let ih = telescoped now x v t (fits_rest flows x s w f) (lt ∙ sym len) (lh ∙ sym len) in
      let one = rw e at (one_step flows x v s lt lh f.0 f.1) in
      rw (changed_step flows x s w) (omega arith)

  pub closed_trail : {a : ℕ} {w : List Step} (flows : List ℕ) (x v : ℕ) → Trail tails heads a w a → Fits flows x w
      → length tails ≡ length flows → length heads ≡ length flows
      → sum_at heads (changed_along flows x w) v + sum_at tails flows v ≡ sum_at heads flows v + sum_at tails (changed_along flows x w) v
  closed_trail flows x v t f lt lh = omega (arith, telescoped flows x v t f lt lh)

-- one edge: where no step goes over it, it keeps its flow
pub changed_other : (flows : List ℕ) (x : ℕ) (w : List Step) (e : ℕ) → has e (edges_of w) ≡ false → get_or (changed_along flows x w) e 0 ≡ get_or flows e 0
unfolding changed_along
changed_other flows x [] e h = refl
changed_other flows x (s ∷ w) e h =
    let m = misses_both e (edge_of s) (edges_of w) h in
    let y = after flows x s in
    rw (changed_step flows x s w) (changed_other (set flows (edge_of s) y) x w e m.1 ∙ get_or-set_other flows (edge_of s) e y 0 m.0)

pub in_edges : (s : Step) (w : List Step) → In s w → has (edge_of s) (edges_of w) ≡ true
in_edges s [] i = absurd i
in_edges s (t ∷ w) (inl q) = has_here (edge_of s) (edge_of t) (edges_of w) (ap edge_of q)
in_edges s (t ∷ w) (inr i) = has_later (edge_of s) (edge_of t) (edges_of w) (in_edges s w i)

-- an edge of the trail is that of a step
pub record Over (w : List Step) (e : ℕ) : Type 0 where
  pub step : Step
  pub among : In step w
  pub edge : edge_of step ≡ e

pub over : (w : List Step) (e : ℕ) → has e (edges_of w) ≡ true → Over w e
over [] e h = absurd (has_nothing e h)
over (s ∷ w) e h = at (has_cases e (edge_of s) (edges_of w) h) (λ g. over w e g)
  where
    at : (e ≡ edge_of s) ⊎ (has e (edges_of w) ≡ true) → (has e (edges_of w) ≡ true → Over w e) → Over (s ∷ w) e
    at (inl q) ih = record { step = s; among = inl refl; edge = sym q }
    at (inr g) ih = let o = ih g in record { step = o.step; among = inr o.among; edge = o.edge }

-- and where one does, it changes by x
after_set : (flows : List ℕ) (x e y : ℕ) (s : Step) → edge_of s ≢ e → after (set flows e y) x s ≡ after flows x s
after_set flows x e y (down d) n = rw (get_or-set_other flows e d y 0 n)
after_set flows x e y (up d) n = rw (get_or-set_other flows e d y 0 n)

pub changed_at : (flows : List ℕ) (x : ℕ) (w : List Step) (s : Step) → Fits flows x w → In s w → get_or (changed_along flows x w) (edge_of s) 0 ≡ after flows x s
changed_at flows x [] s f i = absurd i
changed_at flows x (t ∷ w) s f (inl q) =
    let e = edge_of t in
    let y = after flows x t in
    rw (q, changed_step flows x t w) (changed_other (set flows e y) x w e f.2 ∙ get_or-set_same flows e y 0 f.0)
changed_at flows x (t ∷ w) s f (inr i) =
    let e = edge_of t in
    let y = after flows x t in
    let n : edge_of s ≢ e = λ q. true≢false (sym (in_edges s w i) ∙ rw q f.2) in
    rw (changed_step flows x t w) (changed_at (set flows e y) x w s (fits_rest flows x t w f) i ∙ after_set flows x e y s n)
