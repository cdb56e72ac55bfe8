-- A round of a list of calls over a lent journal: the calls that are left, from the board and the words as they are now, end in the same board and the same words
-- as all of them, and their answers and hints fill the buffers in the same way.
use mathlib.Core.Path.{◌≡◌, refl, sym, ap, ◌∙◌}
use Rattle.std.specs.Prelude.{Option, None, Some}
use mathlib.Core.List.{List, [], ◌∷◌, ◌++◌}
use Prim.Native.Nat.{ℕ, ◌+◌, ◌/◌, ◌<◌, ◌≤◌}
use native.Mathlib.Omega.{arith}
use lib.ListN.{length, set}
use lib.Seq.{sets}
use Rattle.std.specs.Simd.{first_chunks}
use Rattle.board.specs.Whole.{Table, Board}
use Rattle.journal.specs.Words.{whole_of, words_after}
use Rattle.journal.proofs.After.{after_none}
use Rattle.solve_next.specs.Advices.{Suggestion}
use Rattle.solve_next.specs.Hints.{hint_call}
use Rattle.move_list.specs.Calls.{Call, Game, game_of, Reply, reply_of, made, played, answers, hint_given, hints_of, advice_code, behind, noted}
use Rattle.move_list.specs.Codes.{calls_of}
use Rattle.move_list.specs.Told.{Coded, told, stated}
use Rattle.move_list.specs.declared.Call.TheVariants.{Hint}
use Rattle.move_list.specs.Words.{words_played}
use Rattle.move_list.proofs.Coded.{
  hint_noted,
  chunked,
  all_coded,
  calls,
  first,
  others,
  calls_none,
  calls_one,
  calls_skipped,
  played_turn,
  answers_turn,
  hints_turn,
}

-- a hint leaves the board and the words as they are, and its move is noted
pub hint_made : (t : Table) (w : List (List ℕ)) (steps : List ℕ) (call : Coded) (h : Suggestion) (buf buf' : List ℕ) (k k' : ℕ) → call ≡ Hint
    → h ≡ hint_call (whole_of t w) → buf' ≡ sets buf k (advice_code h.advice) → k' ≡ behind buf k
    → (reply_of (record { answer = h.answer; board = whole_of t w }) ≡ made (game_of (whole_of t w)) (told steps call))
    × ((w ≡ words_after t.moves (made (game_of (whole_of t w)) (told steps call)).game.board w)
    × ((rest : List Suggestion) → noted buf' k' rest ≡ noted buf k (hint_given (whole_of t w) (told steps call) ++ rest)))
unfolding hint_call
hint_made t w steps call h buf buf' k k' is eh e ek = rw is (
  ap (λ (s : Suggestion). reply_of (record { answer = s.answer; board = whole_of t w })) eh,
  (sym (after_none t.moves (whole_of t w) w refl), λ rest. hint_noted (whole_of t w) rest buf buf' k k' h eh e ek),
)

-- what is not a call is none
pub no_call : (steps : List ℕ) (o : Option Coded) → ((x : Coded) → o ≡ Some x → ⊥) → stated steps o ≡ []
no_call steps None h = refl
no_call steps (Some x) h = absurd (h x refl)

-- the words after the calls that are left
module _ (steps : List ℕ) (whole : List (List ℕ)) (n : ℕ) (g : Game) where
  pub words_end : (w : List (List ℕ)) → length whole ≤ n → w ≡ words_played g (calls steps whole n) w
  unfolding words_played
  words_end w h = rw (calls_none steps whole n h)

  words_turn : (call : Call) (r : Reply) (w : List (List ℕ)) → calls steps whole n ≡ call ∷ others steps whole n → r ≡ made g call
      → words_played r.game (others steps whole n) (words_after g.board.moves r.game.board w) ≡ words_played g (calls steps whole n) w
  unfolding words_played
  words_turn call r w is makes = rw (is, makes)

-- the buffers, the board and the words at first and now
module _ (steps codes : List ℕ) (whole : List (List ℕ)) (buf₀ hints₀ : List ℕ) (b₀ : Board) (w₀ : List (List ℕ)) where
  pub record Round (buf hints : List ℕ) (b : Board) (w : List (List ℕ)) (n k j : ℕ) : Type 0 where
    pub inside : k ≤ n
    pub plays : played (game_of b) (calls steps whole n) ≡ played (game_of b₀) (calls_of steps codes)
    pub packs : words_played (game_of b) (calls steps whole n) w ≡ words_played (game_of b₀) (calls_of steps codes) w₀
    pub says : sets buf k (answers (game_of b) (calls steps whole n)) ≡ sets buf₀ 0 (answers (game_of b₀) (calls_of steps codes))
    pub hints_say : noted hints j (hints_of (game_of b) (calls steps whole n)) ≡ noted hints₀ 0 (hints_of (game_of b₀) (calls_of steps codes))

  module _ (buf hints : List ℕ) (b : Board) (w : List (List ℕ)) (n k j : ℕ) (inside : n < length whole) (round : Round buf hints b w n k j) where
    -- a call is made
    pub round_made : (call : Call) (answer : ℕ) (b' : Board) → first steps whole n ≡ call ∷ [] → reply_of (record { answer = answer; board = b' }) ≡ made (game_of b) call
        → (buf' hints' : List ℕ) (j' : ℕ) (w' : List (List ℕ)) → buf' ≡ set buf k answer
        → ((rest : List Suggestion) → noted hints' j' rest ≡ noted hints j (hint_given b call ++ rest))
        → w' ≡ words_after b.moves (made (game_of b) call).game.board w → Round buf' hints' b' w' (n + 1) (k + 1) j'
    round_made call answer b' alone makes buf' hints' j' w' e-buf said e-w =
        let r : Reply = record { answer = answer; game = game_of b' } in
        let is = calls_one steps whole n inside call alone in
        record {
          inside = omega (arith, round.inside);
          plays = played_turn steps whole n (game_of b) call r is makes ∙ round.plays;
          packs =
              ap (words_played (game_of b') (others steps whole n)) (e-w ∙ ap (λ (r : Reply). words_after b.moves r.game.board w) (sym makes))
              ∙ words_turn steps whole n (game_of b) call r w is makes ∙ round.packs;
          says = answers_turn steps whole n (game_of b) call r is makes buf buf' k e-buf ∙ round.says;
          hints_say = hints_turn steps whole n (game_of b) call r is makes hints hints' j j' said ∙ round.hints_say;
        }

    -- what is no call changes nothing
    pub round_skipped : first steps whole n ≡ [] → Round buf hints b w (n + 1) k j
    round_skipped none =
        let is = calls_skipped steps whole n inside none in
        record {
          inside = omega (arith, round.inside);
          plays = rw is round.plays;
          packs = rw is round.packs;
          says = rw is round.says;
          hints_say = rw is round.hints_say;
        }

  -- before the first round all is left, and the end of the last round is that of all
  module _ (front : whole ≡ first_chunks 3 (length codes / 3) codes) where
    all_left : calls steps whole 0 ≡ calls_of steps codes
    all_left = ap (chunked steps) front ∙ all_coded steps codes

    pub round_first : Round buf₀ hints₀ b₀ w₀ 0 0 0
    round_first = record {
      inside = omega arith;
      plays = rw all_left;
      packs = rw all_left;
      says = rw all_left;
      hints_say = rw all_left;
    }
