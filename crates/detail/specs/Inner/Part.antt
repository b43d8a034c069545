-- The longest part that one detail takes.
use Rattle.std.specs.Prelude.{ℕ, ◌*◌}
use Rattle.document.specs.Limits.{document_bytes, most_detail_documents}

-- the bytes of the most documents of a detail
abbrev pub longest_part : ℕ
longest_part = most_detail_documents * document_bytes
