-- 01, 'Detail', 'Trays' and 'Centres and directions': the limits of documents and entities.
use Rattle.std.specs.Prelude.{ℕ}

-- the bytes of a document
abbrev pub document_bytes : ℕ
document_bytes = 51

-- the most documents of a detail: 50 groups of 4
abbrev pub most_detail_documents : ℕ
most_detail_documents = 200

-- the largest entity code
abbrev pub largest_entity : ℕ
largest_entity = 9999

-- how many entities a centre may represent
abbrev pub most_represented : ℕ
most_represented = 8

-- the largest nominal that the digits of a document say
abbrev pub largest_nominal : ℕ
largest_nominal = 999999999999

-- of a commission
abbrev pub largest_commission : ℕ
largest_commission = 99999999
