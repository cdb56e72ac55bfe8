-- One round of the loops over lines, and the first line, from what the code knows after it has read a line.
use mathlib.Core.Path.{◌≡◌, refl, sym, ◌∙◌}
use mathlib.Core.List.{List, [], ◌∷◌}
use Prim.Native.Nat.{ℕ, suc, ◌+◌, ◌-◌, ◌<◌, ◌≤◌}
use native.Mathlib.Numerals.{add-one}
use native.Mathlib.Omega.{arith}
use lib.ListN.{length, get_or, take, drop}
use lib.Seq.{drop-drop}
use borrow.Author.Tests.{lt-ltb, le-ltb}
use Rattle.std.specs.Prelude.{Result, Ok, Err}
use Rattle.lists.specs.Choice.{pick}
use Rattle.refusals.specs.declared.Refusal.{Refusal}
use Rattle.refusals.specs.Refusals.{number}
use Rattle.text.specs.declared.Range.{Range}
use Rattle.text.specs.declared.Taken.{Taken}
use Rattle.board.specs.declared.Network.{Network}
use Rattle.text.specs.Views.{as_read, header_part}
use Rattle.text.specs.Text.{Read, refused, got, then, line, lines, head_ranges, edge_ranges, terminal_ranges, header, headed, with_edges, with_terminals, edge_lines, terminal_lines}
use Rattle.lists.proofs.Laws.{rest_part}
use Rattle.text_lines.proofs.Reading.{read_ok, read_err, lines_turn, lines_stop}

-- a run of k lines of which i are read, stored by `place`, and the line read next: out is the network so far, next the one with that line
module _ (x : ℕ) (ranges_of : Network → List Range) (place : Network → ℕ → List (List ℕ) → Network)
    (same-ranges : (net : Network) (i : ℕ) (row : List ℕ) → ranges_of (place net i (row ∷ [])) ≡ ranges_of net)
    (one_more : (net : Network) (i : ℕ) (row : List ℕ) (rows : List (List ℕ)) → place (place net i (row ∷ [])) (suc i) rows ≡ place net i (row ∷ rows))
  where
    abbrev pub storing : Network → ℕ → ℕ → List ℕ → Read Network
    storing net i k s = then (lines x (ranges_of net) k s) (λ rows s1. got (place net i rows) s1)

    module _ (out : Network) (ranges : List Range) (k i at : ℕ) (s : List ℕ) (total : Read Network) (h : i < k) (l : Result (Taken (List ℕ)) Refusal)
        (inv : storing out i (k - i) (drop at s) ≡ total) (rs : ranges ≡ ranges_of out)
        (was_read : as_read l (take (length s - at) (drop at s)) ≡ line x ranges (take (length s - at) (drop at s))) where
      more : storing out i (suc (k - suc i)) (drop at s) ≡ total
      more = let e : k - i ≡ suc (k - suc i) = omega arith in rw e at inv

      the_line : as_read l (drop at s) ≡ line x (ranges_of out) (drop at s)
      the_line = rw (rest_part s at, rs) at was_read

      pub storing_stop : {r : Refusal} → l ≡ Err r → refused (number r) ≡ total
      storing_stop {r} z = sym (lines_stop x (ranges_of out) (k - suc i) (drop at s) _ (number r) (sym the_line ∙ read_err _ z)) ∙ more

      pub storing_step : {t : Taken (List ℕ)} (next : Network) → l ≡ Ok t → next ≡ place out i (t.value ∷ []) → storing next (i + 1) (k - (i + 1)) (drop (at + t.used) s) ≡ total
      storing_step {t} next z e =
          simp (e, add-one i, same-ranges, one_more, ← drop-drop t.used at s)
          (sym (lines_turn x (ranges_of out) (k - suc i) (drop at s) _ t.value (drop t.used (drop at s)) (sym the_line ∙ read_ok _ z)) ∙ more)

module _ (out : Network) (ranges : List Range) (k i at : ℕ) (s : List ℕ) (total : Read Network) (h : i < k) (l : Result (Taken (List ℕ)) Refusal) where
  module _ (inv : edge_lines out i (k - i) (drop at s) ≡ total) (rs : ranges ≡ edge_ranges out.vertices)
      (was_read : as_read l (take (length s - at) (drop at s)) ≡ line 67 ranges (take (length s - at) (drop at s))) where
    pub edge_stop : {r : Refusal} → l ≡ Err r → refused (number r) ≡ total
    unfolding edge_lines
    edge_stop = storing_stop 67 (λ net. edge_ranges net.vertices) with_edges (λ net j row. refl) (λ net j row rows. refl) out ranges k i at s total h l inv rs was_read

    pub edge_step : {t : Taken (List ℕ)} (next : Network) → l ≡ Ok t → next ≡ with_edges out i (t.value ∷ []) → edge_lines next (i + 1) (k - (i + 1)) (drop (at + t.used) s) ≡ total
    unfolding edge_lines
    edge_step = storing_step 67 (λ net. edge_ranges net.vertices) with_edges (λ net j row. refl) (λ net j row rows. refl) out ranges k i at s total h l inv rs was_read

  module _ (inv : terminal_lines out i (k - i) (drop at s) ≡ total) (rs : ranges ≡ terminal_ranges out.vertices)
      (was_read : as_read l (take (length s - at) (drop at s)) ≡ line 87 ranges (take (length s - at) (drop at s))) where
    pub terminal_stop : {r : Refusal} → l ≡ Err r → refused (number r) ≡ total
    unfolding terminal_lines
    terminal_stop = storing_stop 87 (λ net. terminal_ranges net.vertices) with_terminals (λ net j row. refl) (λ net j row rows. refl) out ranges k i at s total h l inv rs was_read

    pub terminal_step : {t : Taken (List ℕ)} (next : Network) → l ≡ Ok t → next ≡ with_terminals out i (t.value ∷ []) → terminal_lines next (i + 1) (k - (i + 1)) (drop (at + t.used) s) ≡ total
    unfolding terminal_lines
    terminal_step = storing_step 87 (λ net. terminal_ranges net.vertices) with_terminals (λ net j row. refl) (λ net j row rows. refl) out ranges k i at s total h l inv rs was_read

-- no line is left
pub edge_end : (out : Network) (k i : ℕ) (s : List ℕ) → k ≤ i → edge_lines out i (k - i) s ≡ got out s
unfolding edge_lines lines then
edge_end out k i s h = let e : k - i ≡ 0 = omega arith in rw e

pub terminal_end : (out : Network) (k i : ℕ) (s : List ℕ) → k ≤ i → terminal_lines out i (k - i) s ≡ got out s
unfolding terminal_lines lines then
terminal_end out k i s h = let e : k - i ≡ 0 = omega arith in rw e

-- the first line
module _ (s : List ℕ) (l : Result (Taken (List ℕ)) Refusal) (was_read : as_read l s ≡ line 66 head_ranges s) where
  pub head_stop : {r : Refusal} → l ≡ Err r → refused (number r) ≡ header_part s
  unfolding header_part header then
  head_stop z = rw (sym was_read ∙ read_err _ z)

  module _ {t : Taken (List ℕ)} (z : l ≡ Ok t) where
    opened : line 66 head_ranges s ≡ got t.value (drop t.used s)
    opened = sym was_read ∙ read_ok _ z

    pub head_source : get_or t.value 0 0 ≤ get_or t.value 3 0 → refused 2 ≡ header_part s
    unfolding header_part header then pick
    head_source h = rw (opened, le-ltb (get_or t.value 3 0) (get_or t.value 0 0) h)

    pub head_got : get_or t.value 3 0 < get_or t.value 0 0 → got (headed t.value) (drop t.used s) ≡ header_part s
    unfolding header_part header then pick
    head_got h = rw (opened, lt-ltb (get_or t.value 3 0) (get_or t.value 0 0) h)
