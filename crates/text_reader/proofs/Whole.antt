-- The whole text from its parts, as the code reads them one after the other.
use mathlib.Core.Path.{◌≡◌, refl, sym, ◌∙◌}
use mathlib.Core.Bool.{true}
use mathlib.Core.List.{List}
use Prim.Native.Nat.{ℕ, ◌<◌, ◌≤◌}
use native.Mathlib.Omega.{arith}
use lib.ListN.{length, drop, drop_of_length-le}
use lib.Seq.{drop-cons}
use borrow.Author.Tests.{ne_eqb}
use Rattle.lists.proofs.Laws.{pick_yes, pick_no}
use Rattle.text_rules.specs.Rules.{judged, counts_fit}
use Rattle.text.specs.Results.{as_reading, judgement, reading_of, read_text}
use Rattle.std.specs.Prelude.{Result, Ok, Err}
use Rattle.refusals.specs.declared.Refusal.{Refusal}
use Rattle.refusals.specs.Refusals.{number, answer_of}
use Rattle.refusals.proofs.Laws as refusals
use Rattle.board.specs.Limits.{max_edges, max_terminals}
use Rattle.board.specs.declared.Network.{Network}
use Rattle.text.specs.declared.Taken.{Taken}
use Rattle.text.specs.Views.{as_read, header_part}
use Rattle.text.specs.Text.{Read, refused, got, then, lines, header, headed, head_ranges, edge_ranges, edge_lines, terminal_lines, nothing_follows, layout}
use Rattle.text_lines.proofs.Reading.{then-then, read_ok, read_err}
use Rattle.text.proofs.Fields.{parts, after, header_only}
use Rattle.text.proofs.FieldColumns.{spelled_within}
use Rattle.text.proofs.Accepted.{laid_counts}

-- what the lines of edges and terminals need of the first line
pub record Counted (net : Network) : Type 0 where
  pub vertices : 0 < net.vertices
  pub edges : net.edges ≤ max_edges
  pub terminals : net.terminals ≤ max_terminals

head_counts : (s rest : List ℕ) (net : Network) → header_part s ≡ got net rest → Counted net
unfolding header_part
head_counts s rest net h =
    parts (header s) _ h λ ns s1 e1 h1.
    let f = spelled_within head_ranges ns (header_only ns s s1 e1).facts.within in
    let same : headed ns ≡ net = cc in
    rw (← same) (record { vertices = omega arith; edges = omega arith; terminals = omega arith })

edge_counts : (net out : Network) (i k : ℕ) (s rest : List ℕ) → edge_lines net i k s ≡ got out rest → Counted net → Counted out
unfolding edge_lines
edge_counts net out i k s rest h n =
    parts (lines 67 (edge_ranges net.vertices) k s) _ h λ rows s1 e1 h1.
    let v : net.vertices ≡ out.vertices = cc in
    let e : net.edges ≡ out.edges = cc in
    let t : net.terminals ≡ out.terminals = cc in
    record { vertices = omega arith; edges = omega arith; terminals = omega arith }

after_edges : Network → List ℕ → Read Network
after_edges net s = then (terminal_lines net 0 net.terminals s) (λ whole s1. nothing_follows whole s1)

after_head : Network → List ℕ → Read Network
after_head net s = then (edge_lines net 0 net.edges s) (λ out s1. after_edges out s1)

layout-parts : (s : List ℕ) → layout s ≡ then (header_part s) (λ net s1. after_head net s1)
unfolding layout header_part then after_head after_edges
layout-parts s = sym (then-then (header s) (λ ns s1. got (headed ns) s1) (λ net s1. after_head net s1))

stopped : {A B : Type 0} {x : Read A} (n : ℕ) (f : A → List ℕ → Read B) → x ≡ refused n → then x f ≡ refused n
unfolding then
stopped n f e = rw e

-- the parts one after the other: x, y and z are what the calls for the first line, the edges and the terminals gave
module _ (s : List ℕ) (x : Result (Taken Network) Refusal) (xr : as_read x s ≡ header_part s) where
  pub whole_head_stop : {r : Refusal} → x ≡ Err r → refused (number r) ≡ layout s
  whole_head_stop e = sym (layout-parts s ∙ stopped _ _ (sym xr ∙ read_err s e))

  module _ (h : Taken Network) (xh : x ≡ Ok h) where
    head-part : header_part s ≡ got h.value (drop h.used s)
    head-part = sym xr ∙ read_ok s xh

    pub first_counts : Counted h.value
    first_counts = head_counts s _ _ head-part

    from_head : layout s ≡ after_head h.value (drop h.used s)
    from_head = layout-parts s ∙ after _ head-part

    module _ (y : Result (Taken Network) Refusal) (yr : as_read y s ≡ edge_lines h.value 0 h.value.edges (drop h.used s)) where
      pub whole_edge_stop : {r : Refusal} → y ≡ Err r → refused (number r) ≡ layout s
      unfolding after_head
      whole_edge_stop e = sym (from_head ∙ stopped _ _ (sym yr ∙ read_err s e))

      module _ (e : Taken Network) (ye : y ≡ Ok e) where
        edge_part : edge_lines h.value 0 h.value.edges (drop h.used s) ≡ got e.value (drop e.used s)
        edge_part = sym yr ∙ read_ok s ye

        pub second_counts : Counted e.value
        second_counts = edge_counts _ _ _ _ _ _ edge_part first_counts

        from_edges : layout s ≡ after_edges e.value (drop e.used s)
        unfolding after_head
        from_edges = from_head ∙ after _ edge_part

        module _ (z : Result (Taken Network) Refusal) (zr : as_read z s ≡ terminal_lines e.value 0 e.value.terminals (drop e.used s)) where
          pub whole_terminal_stop : {r : Refusal} → z ≡ Err r → refused (number r) ≡ layout s
          unfolding after_edges
          whole_terminal_stop f = sym (from_edges ∙ stopped _ _ (sym zr ∙ read_err s f))

          module _ (t : Taken Network) (zt : z ≡ Ok t) where
            from_terminals : layout s ≡ nothing_follows t.value (drop t.used s)
            unfolding after_edges
            from_terminals = from_edges ∙ after _ (sym zr ∙ read_ok s zt)

            pub whole_surplus : t.used < length s → refused 1 ≡ layout s
            unfolding nothing_follows
            whole_surplus less = sym (from_terminals ∙ rw (drop-cons s t.used 0 less))

            pub whole_end : length s ≤ t.used → got t.value (drop t.used s) ≡ layout s
            unfolding nothing_follows
            whole_end end =
                let none = drop_of_length-le s end in
                rw none (sym (rw none at from_terminals))

-- the judgement of a text that was read
module _ (s : List ℕ) (x : Result (Taken Network) Refusal) (xr : as_read x s ≡ layout s) where
  pub read_stop : {r : Refusal} → x ≡ Err r → as_reading (Err r) ≡ read_text s
  unfolding read_text reading_of
  read_stop e = rw (sym xr ∙ read_err s e)

  module _ {p : Taken Network} (xp : x ≡ Ok p) where
    pub read_counts : counts_fit p.value ≡ true
    read_counts = laid_counts s p.value _ (sym xr ∙ read_ok s xp)

    module _ (j : Result (Unit {0}) Refusal) (judge : answer_of j ≡ judged p.value) where
      through : read_text s ≡ judgement (answer_of j) p.value
      unfolding read_text reading_of
      through = rw (sym xr ∙ read_ok s xp, judge)

      pub read_refused : {r : Refusal} → j ≡ Err r → as_reading (Err r) ≡ read_text s
      unfolding judgement
      read_refused {r} e = sym (through ∙ rw e (pick_no _ _ _ (ne_eqb (number r) 0 (refusals.refused r))))

      pub read_accepted : {u : Unit {0}} → j ≡ Ok u → as_reading (Ok p.value) ≡ read_text s
      unfolding judgement
      read_accepted e = sym (through ∙ rw e (pick_yes _ _ _ refl))
