-- The call `hint`: document 01, "Moves"; document 02, E3.
use Rattle.std.specs.Prelude.{ℕ, eqb, List}
use Rattle.lists.specs.Choice.{pick, either, unless}
use Rattle.board.specs.Whole.{Board}
use Rattle.board.specs.declared.Network.{Network}
use Rattle.move_guard.specs.Guard.{playing}
use Rattle.solve_next.specs.Advices.{Advice, Suggestion}
use Rattle.solve_next.specs.Choosing.{all_home_in, all_home, judge, next_act_in, next_act, no_advice, advice_of}

-- "Hint: 20". A board on which terminals are away and the solver's move is refused was never loaded: see the theorem about every list of calls
unfoldable pub hint_refusal : Board → ℕ
hint_refusal b = unless (playing b) 20 (unless (either (all_home b) (eqb (judge b (next_act b)) 0)) 20 0)

-- "The hint shall give the move that finish would make next on this board"; "none only if every mill is at the spring"
unfoldable pub next_advice_in : Network → List ℕ → ℕ → List ℕ → Advice
next_advice_in net flows marks places = pick (all_home_in net.terminals net.source places) no_advice (advice_of (next_act_in net flows marks places))

abbrev pub next_advice : Board → Advice
next_advice b = next_advice_in b.network b.flows b.marks b.places

-- the call; a refusal gives the number alone
unfoldable pub hint_call : Board → Suggestion
hint_call b = record { answer = hint_refusal b; advice = pick (eqb (hint_refusal b) 0) (next_advice b) no_advice }
