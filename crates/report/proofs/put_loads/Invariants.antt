-- The rows are those of the loads, by the sets of the routes.
use Rattle.sets.specs.Inner.{sets_of}
use Rattle.report.specs.Rows.{set_load_row}
use Rattle.report.proofs.put_loads.Given as goal

abbrev pub ghost-put_rows : goal.ghost-put_rows
ghost-put_rows a = record { row = set_load_row a.row.3.now a.row.1 (sets_of a.row.0) a.row.2; width = 3 }
