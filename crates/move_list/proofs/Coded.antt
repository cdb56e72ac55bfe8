-- The laws that the functions cite: what a list of numbers holds is read and written from its front, so each round of a
-- loop does the first of what is left, and leaves the rest.
use mathlib.Core.Path.{◌≡◌, refl, sym, ap, ◌∙◌}
use mathlib.Core.Bool.{true, false}
use mathlib.Core.List.{List, [], ◌∷◌, ◌++◌}
use Prim.Native.Nat.{ℕ, zero, suc, ◌+◌, ◌-◌, ◌*◌, ◌/◌, ◌%◌, ◌≤◌, ◌<◌}
use native.Mathlib.Numerals.{add-one}
use native.Mathlib.Omega.{arith}
use Rattle.std.specs.Simd.{first_chunks}
use Rattle.std.proofs.Math.Nat.{div-add-mod, mod-lt}
use lib.Dec.{leb, ltb}
use borrow.Author.Tests.{ne_eqb, leb-true, lt-ltb, le-ltb}
use lib.ListN.{length, get_or, take, drop, set, drop_of_length-le}
use lib.Seq.{drop-cons, sets}
use Rattle.lists.specs.Choice.{both}
use Rattle.lists.proofs.Laws.{pick_yes, pick_no, both_left, both_right}
use Rattle.lists.proofs.Stored.{stored_turn, stored_past}
use Rattle.board.specs.Whole.{Board}
use Rattle.solve_next.specs.Advices.{Advice}
use Rattle.solve_next.specs.Advices.{Suggestion}
use Rattle.solve_next.specs.Hints.{hint_call}
use Rattle.move_list.specs.Calls.{Call, hint, Game, Reply, made, played, answers, hint_given, hints_of, advice_code, advice_width, behind, noted}
use Rattle.move_list.specs.Codes.{part, carry_code, turn_code, undo_code, hint_code, finish_code, call_of, calls_of}

-- the steps of a turn
module _ (steps : List ℕ) (a c : ℕ) where
  pub part_some : both (leb a c) (leb c (length steps)) ≡ true → part steps a c ≡ take (c - a) (drop a steps)
  unfolding part
  part_some t = pick_yes _ _ _ t

  pub part_none : both (leb a c) (leb c (length steps)) ≡ false → part steps a c ≡ []
  unfolding part
  part_none t = pick_no _ _ _ t

  pub part_start : both (leb a c) (leb c (length steps)) ≡ true → a ≤ c
  part_start t = leb-true a c (both_left _ _ t)

  pub part_end : both (leb a c) (leb c (length steps)) ≡ true → c ≤ length steps
  part_end t = leb-true c (length steps) (both_right _ _ t)

-- a kind past that of a finish has no number
pub none_coded : (steps : List ℕ) (kind a c : ℕ) → finish_code < kind → call_of steps kind a c ≡ []
unfolding call_of
none_coded steps kind a c h =
    pick_no _ _ _ (ne_eqb kind carry_code (λ z. omega (arith, z))) ∙ pick_no _ _ _ (ne_eqb kind turn_code (λ z. omega (arith, z)))
    ∙ pick_no _ _ _ (ne_eqb kind undo_code (λ z. omega (arith, z))) ∙ pick_no _ _ _ (ne_eqb kind hint_code (λ z. omega (arith, z)))
    ∙ pick_no _ _ _ (ne_eqb kind finish_code (λ z. omega (arith, z)))

-- the call of three numbers, and those of a list of threes
abbrev pub coded : List ℕ → List ℕ → List Call
coded steps code = call_of steps (get_or code 0 0) (get_or code 1 0) (get_or code 2 0)

unfoldable pub chunked : List ℕ → List (List ℕ) → List Call
chunked steps [] = []
chunked steps (code ∷ codes) = coded steps code ++ chunked steps codes

-- fewer than three numbers are no call
calls_few : (steps codes : List ℕ) → length codes < 3 → calls_of steps codes ≡ []
unfolding calls_of
calls_few steps [] h = refl
calls_few steps (x ∷ []) h = refl
calls_few steps (x ∷ y ∷ []) h = refl
calls_few steps (x ∷ y ∷ z ∷ codes) h = absurd (omega arith)

-- .. which are the calls of the numbers
chunks_coded : (steps : List ℕ) (k : ℕ) (codes : List ℕ) → 3 * k ≤ length codes → length codes < 3 * k + 3
    → chunked steps (first_chunks 3 k codes) ≡ calls_of steps codes
unfolding chunked calls_of
chunks_coded steps zero codes low high = sym (calls_few steps codes (omega (arith, high)))
chunks_coded steps (suc k) [] low high = absurd (omega (arith, low))
chunks_coded steps (suc k) (x ∷ []) low high = absurd (omega (arith, low))
chunks_coded steps (suc k) (x ∷ y ∷ []) low high = absurd (omega (arith, low))
chunks_coded steps (suc k) (x ∷ y ∷ z ∷ codes) low high =
    ap (λ (l : List Call). call_of steps x y z ++ l) (chunks_coded steps k codes (omega (arith, low)) (omega (arith, high)))

pub all_coded : (steps codes : List ℕ) → chunked steps (first_chunks 3 (length codes / 3) codes) ≡ calls_of steps codes
all_coded steps codes =
    let whole : 3 * (length codes / 3) + length codes % 3 ≡ length codes = div-add-mod (length codes) 3 in
    let few : length codes % 3 < 3 = mod-lt (length codes) (omega arith) in
    chunks_coded steps (length codes / 3) codes (omega arith) (omega arith)

-- the hint of a call is noted
pub hint_noted : (b : Board) (rest : List Suggestion) (buf buf' : List ℕ) (k k' : ℕ) (h : Suggestion) → h ≡ hint_call b → buf' ≡ sets buf k (advice_code h.advice)
    → k' ≡ behind buf k → noted buf' k' rest ≡ noted buf k (hint_given b hint ++ rest)
unfolding noted
hint_noted b rest buf buf' k k' h eh e ek = rw (e, ek, eh)

-- the calls that are left from a three on; one round makes the call of that three, or leaves it out
module _ (steps : List ℕ) (whole : List (List ℕ)) (n : ℕ) where
  abbrev pub calls : List Call
  calls = chunked steps (drop n whole)

  abbrev pub first : List Call
  first = coded steps (get_or whole n [])

  abbrev pub others : List Call
  others = chunked steps (drop (n + 1) whole)

  pub calls_none : length whole ≤ n → calls ≡ []
  unfolding chunked
  calls_none h = rw (drop_of_length-le whole h)

  module _ (inside : n < length whole) where
    calls_first : calls ≡ first ++ others
    unfolding chunked
    calls_first = rw (add-one n, drop-cons whole n [] inside)

    pub calls_one : (call : Call) → first ≡ call ∷ [] → calls ≡ call ∷ others
    calls_one call alone = calls_first ∙ ap (λ (l : List Call). l ++ others) alone

    pub calls_skipped : first ≡ [] → others ≡ calls
    calls_skipped none = sym (calls_first ∙ ap (λ (l : List Call). l ++ others) none)

  module _ (g : Game) where
    pub played_end : length whole ≤ n → g ≡ played g calls
    unfolding played
    played_end h = rw (calls_none h)

    pub answers_end : (buf : List ℕ) (k : ℕ) → length whole ≤ n → buf ≡ sets buf k (answers g calls)
    unfolding answers
    answers_end buf k h = rw (calls_none h)

    pub hints_end : (buf : List ℕ) (k : ℕ) → length whole ≤ n → buf ≡ noted buf k (hints_of g calls)
    unfolding noted hints_of
    hints_end buf k h = rw (calls_none h)

    module _ (call : Call) (r : Reply) (is : calls ≡ call ∷ others) (makes : r ≡ made g call) where
      pub played_turn : played r.game others ≡ played g calls
      unfolding played
      played_turn = rw (is, makes)

      pub answers_turn : (buf buf' : List ℕ) (k : ℕ) → buf' ≡ set buf k r.answer → sets buf' (k + 1) (answers r.game others) ≡ sets buf k (answers g calls)
      unfolding answers
      answers_turn buf buf' k e = rw (is, e, makes, add-one k)

      pub hints_turn : (buf buf' : List ℕ) (k k' : ℕ) → ((rest : List Suggestion) → noted buf' k' rest ≡ noted buf k (hint_given g.board call ++ rest))
          → noted buf' k' (hints_of r.game others) ≡ noted buf k (hints_of g calls)
      unfolding hints_of
      hints_turn buf buf' k k' said = rw (is, makes) (said _)

-- numbers stored one after the other, from place k on, i of them so far
module _ (buf xs : List ℕ) (k : ℕ) where
  pub sets_start : sets buf (k + 0) (drop 0 xs) ≡ sets buf k xs
  sets_start = let same : k + 0 ≡ k = omega arith in rw same

  pub sets_turn : (i z : ℕ) (r : List ℕ) → i < length xs → r ≡ set buf (k + i) (get_or xs i z) → sets r (k + (i + 1)) (drop (i + 1) xs) ≡ sets buf (k + i) (drop i xs)
  sets_turn i z r h e =
      let next : k + (i + 1) ≡ k + i + 1 = omega arith in
      rw next (stored_turn buf xs (k + i) i z r h e)

-- a hint's move, stored part by part
pub advice_stored : (buf : List ℕ) (k : ℕ) (a : Advice) (b1 b2 b3 b4 b5 : List ℕ) → b1 ≡ set buf k a.kind → b2 ≡ set b1 (k + 1) a.terminal
    → b3 ≡ set b2 (k + 2) a.edge → b4 ≡ set b3 (k + 3) a.count → b5 ≡ sets b4 (k + 4) a.steps → b5 ≡ sets buf k (advice_code a)
advice_stored buf k a b1 b2 b3 b4 b5 e1 e2 e3 e4 e5 =
    let one : k + 1 ≡ suc k = omega arith in
    let two : k + 2 ≡ suc (suc k) = omega arith in
    let three : k + 3 ≡ suc (suc (suc k)) = omega arith in
    let four : k + 4 ≡ suc (suc (suc (suc k))) = omega arith in
    rw (e5, e4, e3, e2, e1, one, two, three, four)

-- the move of a hint is noted where there is a place for it
module _ (buf : List ℕ) (k : ℕ) where
  pub nothing_noted : (a : Advice) → length buf ≤ k → (k ≡ behind buf k) × (buf ≡ sets buf k (advice_code a))
  unfolding behind
  nothing_noted a h = (sym (pick_no (ltb k (length buf)) _ _ (le-ltb k (length buf) h)), sym (stored_past buf (advice_code a) k h))

  pub one_noted : k < length buf → k + advice_width ≡ behind buf k
  unfolding behind
  one_noted h = sym (pick_yes (ltb k (length buf)) _ _ (lt-ltb k (length buf) h))
