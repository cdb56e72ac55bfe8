-- The words of a lent journal after a list of calls.
use Rattle.std.specs.Prelude.{List, [], ◌∷◌, ℕ}
use Rattle.journal.specs.Words.{words_after}
use Rattle.move_list.specs.Calls.{Call, Game, made}

-- each call gets the words as the call before it left them
unfoldable pub words_played : Game → List Call → List (List ℕ) → List (List ℕ)
words_played g [] w = w
words_played g (c ∷ cs) w = words_played (made g c).game cs (words_after g.board.moves (made g c).game.board w)
