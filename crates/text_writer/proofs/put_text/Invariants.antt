-- The rows are those of the edges, and then those of the terminals.
use Rattle.text.specs.Text.{edge_row, terminal_row}
use Rattle.text_writer.proofs.put_text.Given as goal

abbrev pub ghost-put_rows : goal.ghost-put_rows
ghost-put_rows a = record { row = edge_row a.row.0.now; width = 3 }

abbrev pub ghost-put_rows-2 : goal.ghost-put_rows-2
ghost-put_rows-2 a = record { row = terminal_row a.row.0.now; width = 2 }
