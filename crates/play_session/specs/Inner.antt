-- For inner contracts only: the stage of a number, sessions of a stage and a kind that there are, and what a session
-- prints for a whole input, byte by byte.
use Rattle.std.specs.Prelude.{◌≡◌, true, false, List, [], ◌∷◌, ◌++◌, ℕ, ◌≤◌, eqb}
use Rattle.play_lines.specs.Inner.{IsKind}
use Rattle.play_session.specs.Machine.{Session}
use Rattle.play_session.specs.Machine.{over_stage, grown, line_ended, line_told, end_told}
use Rattle.play_session.specs.declared.Stage.{Stage}
use Rattle.play_session.specs.Lent.{stage_number}

-- what the conversion from a number gives: every number has its stage
abbrev pub StageOf : ℕ → Stage → Type 0
StageOf n s = stage_number s ≡ n

-- its stage is one of the three, and the kind of its line one of the ten
abbrev pub IsSession : Session → Type 0
IsSession s = (s.stage ≤ over_stage) × IsKind s.scan.form.kind

-- what a session prints for the bytes, and at the end of them
unfoldable pub runs : Session → List ℕ → List ℕ
runs s [] = end_told s
runs s (c ∷ cs) = elim (eqb c 10) [ true ↦ line_told s ++ runs (line_ended s) cs | false ↦ runs (grown s (c ∷ [])) cs ]
