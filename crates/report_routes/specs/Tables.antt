-- The routes as a table: document 01, "a row of channel numbers for each mill".
use Rattle.std.specs.Prelude.{Bool, leb, length}
use Rattle.lists.specs.Lists.{all}
use Rattle.board.specs.Limits.{max_vertices}
use Rattle.board.specs.Whole.{Board}
use Rattle.report_routes.specs.Routes.{route}

-- every route has room in its row
unfoldable pub routes_fit : Board → Bool
routes_fit b = all (λ i. leb (length (route b i)) max_vertices) 0 b.network.terminals
