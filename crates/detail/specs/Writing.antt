-- 01, 'Trays' and 'Detail': a detail as it is written, from an operation byte and the bytes of whole documents.
use Rattle.std.specs.Prelude.{ℕ}
use mathlib.Core.List.{List, ◌∷◌, flat_map}
use Rattle.packed.specs.Pieces.{pieces}
use Rattle.codes.specs.Body.{free, mark}
use Rattle.detail.specs.Limits.{fill_bytes}
use Rattle.document.specs.Part.{count_in}

-- a group of some documents, its free byte 00
abbrev pub written_group : (operation_byte : ℕ) → List ℕ → List ℕ
written_group operation_byte ds = free ∷ mark ∷ operation_byte ∷ count_in ds ∷ ds

-- groups of four, the last with the documents that are left
unfoldable pub written_detail : (operation_byte : ℕ) → List ℕ → List ℕ
written_detail operation_byte part = flat_map (written_group operation_byte) (pieces fill_bytes part)
