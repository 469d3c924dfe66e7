-- A heredoc's mark as the program reads it, with its name lent: only private functions are stated by it.
use Rattle.lines.specs.declared.line.Mark.{Mark}
use Rattle.lines.specs.declared.written_mark.WrittenMark.{WrittenMark}

-- the mark that a lent one is
abbrev pub mark_written : WrittenMark → Mark
mark_written written = record { name = written.name.now; quoted = written.quoted; strips = written.strips }
