-- What a result of the code says, of the writer of a sheet.
--
--   six header            the six numbers, in the order in which a sheet has them
--   written_of outcome    the answer: the length of the sheet where nothing is refused; else the number, and zeros elsewhere
use Rattle.std.specs.Prelude.{List, [], ◌∷◌, ℕ, Result, Ok, Err}
use Rattle.answers.specs.Results.{number_of}
use Rattle.answers.specs.declared.refusal.Refusal.{Refusal}
use Rattle.sheet.specs.declared.read.Header.{Header}
use Rattle.writer.specs.declared.written.Written.{Written}

abbrev pub six : Header → List ℕ
six h = h.words ∷ h.words_at ∷ h.records ∷ h.records_at ∷ h.k ∷ h.w ∷ []

abbrev pub written_of : Result ℕ Refusal → Written
written_of (Ok length) = record { no = 0; next = 0; rejected = 0; length = length }
written_of (Err refusal) = record { no = number_of refusal; next = 0; rejected = 0; length = 0 }
