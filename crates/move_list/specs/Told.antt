-- For inner contracts only: the code's calls, by the steps that are lent; what they answer; and the code's numbers of a hint's move.
use Rattle.std.specs.Prelude.{◌≡◌, Option, None, Some, Result, List, [], ◌∷◌, ℕ}
use Rattle.refusals.specs.Refusals.{answer_of}
use Rattle.refusals.specs.declared.Refusal.{Refusal}
use Rattle.board.specs.Whole.{Table}
use Rattle.journal.specs.Words.{whole_of}
use Rattle.move_cycle.specs.Steps.{steps_of}
use Rattle.solve_next.specs.Advices.{Advice}
use Rattle.solve_next.specs.Views.{Advised, advice_given}
use Rattle.move_list.specs.declared.Call as code-call
use Rattle.move_list.specs.declared.AdviceNumbers.{AdviceNumbers}
use Rattle.move_list.specs.Calls.{Call, carry, turn, undo, hint, finish, Reply, game_of}
use Rattle.move_list.specs.Codes.{part}

-- the code's `Call`
abbrev pub Coded : Type 0
Coded = code-call.Call

-- the call that it stands for
abbrev pub told : List ℕ → Coded → Call
told steps (code-call.TheVariants.Carry i e) = carry i e
told steps (code-call.TheVariants.Turn a c) = turn (steps_of (part steps a c))
told steps code-call.TheVariants.Undo = undo
told steps code-call.TheVariants.Hint = hint
told steps code-call.TheVariants.Finish = finish

-- .. and none
abbrev pub stated : List ℕ → Option Coded → List Call
stated steps None = []
stated steps (Some c) = told steps c ∷ []

-- what a call answers: its number, and the game of the board and the words after it
abbrev pub replied_by : Result (Unit {0}) Refusal → Table → List (List ℕ) → Reply
replied_by given board words = record { answer = answer_of given; game = game_of (whole_of board words) }

-- the move of the code's numbers
abbrev pub numbered : AdviceNumbers → Advice
numbered n = record { kind = n.kind; terminal = n.terminal; edge = n.edge; count = n.count; steps = n.steps }

-- what the conversion gives
abbrev pub Tells : Option Advised → AdviceNumbers → Type 0
Tells a n = numbered n ≡ advice_given a
