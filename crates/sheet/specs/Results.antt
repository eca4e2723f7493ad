-- What a result of the code says, of an operation on a sheet.
--
--   header_of s         the six numbers of the sheet s, as the code holds them
--   drawn_of outcome    the answer of a sheet that was run: the words used and the six numbers where nothing is refused; else the number, the
--                       batch, and zeros elsewhere
--   read_of outcome     the answer of a sheet that was read, which uses no word
use Rattle.std.specs.Prelude.{List, ℕ, Result, Ok, Err}
use Rattle.answers.specs.Results.{number_of, batch_of}
use Rattle.answers.specs.declared.refusal.Refusal.{Refusal}
use Rattle.sheet.specs.Sheet.{numbers}
use Rattle.sheet.specs.declared.drawn.Drawn.{Drawn}
use Rattle.sheet.specs.declared.read.Header.{Header}
use Rattle.sheet.specs.declared.run.Draw.{Draw}

abbrev pub header_of : List ℕ → Header
header_of s = record {
  words = (numbers s).words;
  words_at = (numbers s).words_at;
  records = (numbers s).records;
  records_at = (numbers s).records_at;
  k = (numbers s).k;
  w = (numbers s).w;
}

abbrev pub drawn_of : Result Draw Refusal → Drawn
drawn_of (Ok draw) = record {
  no = 0;
  next = draw.used.next;
  rejected = draw.used.rejected;
  batch = 0;
  words = draw.header.words;
  words_at = draw.header.words_at;
  records = draw.header.records;
  records_at = draw.header.records_at;
  k = draw.header.k;
  w = draw.header.w;
}
drawn_of (Err refusal) = record {
  no = number_of refusal;
  next = 0;
  rejected = 0;
  batch = batch_of refusal;
  words = 0;
  words_at = 0;
  records = 0;
  records_at = 0;
  k = 0;
  w = 0;
}

abbrev pub read_of : Result Header Refusal → Drawn
read_of (Ok header) = drawn_of (Ok (record { used = record { next = 0; rejected = 0 }; header = header }))
read_of (Err refusal) = drawn_of (Err refusal)
