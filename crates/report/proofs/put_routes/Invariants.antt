-- The rows are those of the routes.
use Rattle.text.specs.Sizes.{line_numbers}
use Rattle.report.specs.Rows.{table_route_row}
use Rattle.report.proofs.put_routes.Given as goal

abbrev pub ghost-put_rows : goal.ghost-put_rows
ghost-put_rows a = record { row = table_route_row a.row.0.now a.row.1.now; width = line_numbers }
