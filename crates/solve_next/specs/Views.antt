-- The records that the code's answers stand for: its `Advice` is a carry or a turn, and no move is none of them.
use Rattle.std.specs.Prelude.{Option, None, Some, Result, Ok, Err, replicate}
use Rattle.board.specs.Limits.{max_edges}
use Rattle.refusals.specs.Refusals.{number}
use Rattle.refusals.specs.declared.Refusal.{Refusal}
use Rattle.solve_next.specs.declared.Advice as code-advice
use Rattle.solve_next.specs.Advices.{Advice, Suggestion}
use Rattle.solve_next.specs.Choosing.{carry_kind, turn_kind, no_advice}

-- the code's `Advice`
abbrev pub Advised : Type 0
Advised = code-advice.Advice

abbrev pub advice_told : Advised → Advice
advice_told (code-advice.TheVariants.Carry r) = record { kind = carry_kind; terminal = r.terminal; edge = r.edge; count = 0; steps = replicate max_edges 0 }
advice_told (code-advice.TheVariants.Turn w) = record { kind = turn_kind; terminal = 0; edge = 0; count = w.count; steps = w.steps }

abbrev pub advice_given : Option Advised → Advice
advice_given None = no_advice
advice_given (Some a) = advice_told a

-- a hint; a refusal gives the number alone
abbrev pub suggestion_of : Result (Option Advised) Refusal → Suggestion
suggestion_of (Ok a) = record { answer = 0; advice = advice_given a }
suggestion_of (Err r) = record { answer = number r; advice = no_advice }
