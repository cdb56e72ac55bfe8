-- A store of packed words is a store of the entry.
use mathlib.Core.Path.{ap, ◌∙◌}
use lib.ListN.{set}
use Rattle.journal.specs.Words.{unpacked, entries_of}
use Rattle.journal.proofs.Laws.{map-set}
use Rattle.journal.proofs.put_entry.Goals as goal

pub returns-clause-journal_after_2 : goal.returns-clause-journal_after_2
returns-clause-journal_after_2 c =
    let l = c.args.journal.now in
    ap entries_of c.put.ensures ∙ map-set unpacked l c.args.i _ ∙ ap (set (entries_of l) c.args.i) c.pack-w.ensures.result_value
