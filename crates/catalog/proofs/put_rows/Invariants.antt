-- The rows are those of the list.
use Rattle.catalog.specs.Catalog.{table_row}
use Rattle.catalog.proofs.put_rows.Given as goal

abbrev pub ghost-put_rows : goal.ghost-put_rows
ghost-put_rows a = record { row = table_row a.row.1 a.row.0.now; width = a.row.1 }
