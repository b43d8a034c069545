-- 01, 'Detail': the limits of a body and its groups.
use Rattle.std.specs.Prelude.{ℕ, ◌+◌, ◌*◌}
use Rattle.document.specs.Limits.{document_bytes}

-- free byte, mark, operation and count
abbrev pub head_bytes : ℕ
head_bytes = 4

-- the documents of a full group
abbrev pub full_count : ℕ
full_count = 4

-- the most groups of a body
abbrev pub most_groups : ℕ
most_groups = 50

-- the bytes of a full group without its head
abbrev pub fill_bytes : ℕ
fill_bytes = full_count * document_bytes

-- and with its head
abbrev pub group_bytes : ℕ
group_bytes = head_bytes + fill_bytes
