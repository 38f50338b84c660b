use Rattle.std.proofs.Common.{rules, List, ℕ, true, false, length, ◌+◌, ◌≤◌, ◌≡◌, refl, take, drop, arith}
use Rattle.std.specs.Prelude.{⊤}
use Rattle.std.specs.Io.KnownBytes.{Appends}
use Rattle.std.proofs.KnownBytes.{Keeps-refl}
use Rattle.meanings.specs.ranges.RangeOutput.{either_program}
use Rattle.sheet_to_curve.specs.Ends.{Moved}
use Rattle.sheet_to_curve.specs.Run.{AppendsPart, WrittenFront}
use Rattle.sheet_to_curve.proofs.Front.{front_of, of_any, read_is_front, text_is}
use Rattle.sheet_to_curve.proofs.run.Goals as goal

pub returns-in-Ok-write_text-clause-written : goal.returns-in-Ok-write_text-clause-written
returns-in-Ok-write_text-clause-written g c =
    let read = c.in-Ok.ensures in
    let reader = c.args.reader.now in
    let reader' = c.read_input.new.reader in
    let front =
    front_of (g.R.Read.remaining reader) (g.R.Read.remaining reader') (g.R.Source.log reader) (g.R.Source.log reader') c.in-Ok.size c.read_input.new.buf
    (omega arith) read.bound read.bytes read.end read.reads in
    let Grown = Appends (g.W.Write.contents c.args.writer.now) (g.W.Write.contents c.write_text.new.writer) in
    read_is_front (λ t rest. Grown t) _ _ _ _ _ front (text_is Grown _ _ _ _ read.bound c.answer-length.ensures.buf_after c.in-Ok-write_text.ensures.ok)

pub returns-in-Ok-write_text-clause-read : goal.returns-in-Ok-write_text-clause-read
returns-in-Ok-write_text-clause-read g c =
    let read = c.in-Ok.ensures in
    let reader = c.args.reader.now in
    let reader' = c.read_input.new.reader in
    let front =
    front_of (g.R.Read.remaining reader) (g.R.Read.remaining reader') (g.R.Source.log reader) (g.R.Source.log reader') c.in-Ok.size c.read_input.new.buf
    (omega arith) read.bound read.bytes read.end read.reads in
    read_is_front (λ t rest. g.R.Read.remaining reader' ≡ rest) _ _ _ _ _ front refl

pub returns-in-Ok-write_text-clause-spare : goal.returns-in-Ok-write_text-clause-spare
returns-in-Ok-write_text-clause-spare g c =
    let read = c.in-Ok.ensures in
    let reader = c.args.reader.now in
    let reader' = c.read_input.new.reader in
    let front =
    front_of (g.R.Read.remaining reader) (g.R.Read.remaining reader') (g.R.Source.log reader) (g.R.Source.log reader') c.in-Ok.size c.read_input.new.buf
    (omega arith) read.bound read.bytes read.end read.reads in
    let Covers : List ℕ → Type 0 = λ t. g.W.Sink.spare c.write_text.new.writer ≡ drop (length t) (g.W.Sink.spare c.args.writer.now) in
    read_is_front (λ t rest. Covers t) _ _ _ _ _ front (text_is Covers _ _ _ _ read.bound c.answer-length.ensures.buf_after c.in-Ok-write_text.ensures.spare)

pub returns-in-Ok-write_text-clause-any_reader : goal.returns-in-Ok-write_text-clause-any_reader
returns-in-Ok-write_text-clause-any_reader g c =
    let read = c.in-Ok.ensures in
    let reader = c.args.reader.now in
    let reader' = c.read_input.new.reader in
    let front =
    front_of (g.R.Read.remaining reader) (g.R.Read.remaining reader') (g.R.Source.log reader) (g.R.Source.log reader') c.in-Ok.size c.read_input.new.buf
    (omega arith) read.bound read.bytes read.end read.reads in
    let Grown = Appends (g.W.Write.contents c.args.writer.now) (g.W.Write.contents c.write_text.new.writer) in
    let Written = Moved (g.W.Sink.log c.args.writer.now) (g.W.Sink.log c.write_text.new.writer) in
    let text = c.answer-length.ensures.buf_after in (
      take c.in-Ok.size c.read_input.new.buf,
      front,
      text_is Grown _ _ _ _ read.bound text c.in-Ok-write_text.ensures.ok,
      text_is Written _ _ _ _ read.bound text c.in-Ok-write_text.ensures.writes,
    )

pub returns-in-Ok-write_text-clause-succeeds : goal.returns-in-Ok-write_text-clause-succeeds
returns-in-Ok-write_text-clause-succeeds g c =
    let read = c.in-Ok.ensures in
    let reader = c.args.reader.now in
    let reader' = c.read_input.new.reader in
    let front =
    front_of (g.R.Read.remaining reader) (g.R.Read.remaining reader') (g.R.Source.log reader) (g.R.Source.log reader') c.in-Ok.size c.read_input.new.buf
    (omega arith) read.bound read.bytes read.end read.reads in
    let before = g.W.Sink.room c.args.writer.now in
    let after = g.W.Sink.room c.write_text.new.writer in
    let Fits : List ℕ → Type 0 = λ t. length t ≤ before → (true ≡ true) × (before ≤ after + length t) in
    λ steady few_reads few_writes. read_is_front (λ t rest. Fits t) _ _ _ _ _ front
    (text_is Fits _ _ _ _ read.bound c.answer-length.ensures.buf_after (λ fits. c.in-Ok-write_text.ensures.room fits few_writes))

pub returns-in-Ok-write_text-clause-output_good : goal.returns-in-Ok-write_text-clause-output_good
returns-in-Ok-write_text-clause-output_good g c =
    λ few_writes. of_any (λ sheet. length (either_program sheet) ≤ g.W.Sink.room c.args.writer.now → ⊤) _ (λ sheet fits. tt)

pub returns-in-Err-write_text-clause-stopped : goal.returns-in-Err-write_text-clause-stopped
returns-in-Err-write_text-clause-stopped g c =
    let read = c.in-Ok.ensures in
    let reader = c.args.reader.now in
    let reader' = c.read_input.new.reader in
    let front =
    front_of (g.R.Read.remaining reader) (g.R.Read.remaining reader') (g.R.Source.log reader) (g.R.Source.log reader') c.in-Ok.size c.read_input.new.buf
    (omega arith) read.bound read.bytes read.end read.reads in
    let wrote = c.in-Err-write_text.ensures.err in
    let Grown = AppendsPart (g.W.Write.contents c.args.writer.now) (g.W.Write.contents c.write_text.new.writer) in
    read_is_front (λ t rest. Grown t) _ _ _ _ _ front (text_is Grown _ _ _ _ read.bound c.answer-length.ensures.buf_after (wrote.size, wrote.part, wrote.bytes))

pub returns-in-Err-write_text-clause-any_reader : goal.returns-in-Err-write_text-clause-any_reader
returns-in-Err-write_text-clause-any_reader g c =
    let read = c.in-Ok.ensures in
    let reader = c.args.reader.now in
    let reader' = c.read_input.new.reader in
    let front =
    front_of (g.R.Read.remaining reader) (g.R.Read.remaining reader') (g.R.Source.log reader) (g.R.Source.log reader') c.in-Ok.size c.read_input.new.buf
    (omega arith) read.bound read.bytes read.end read.reads in
    let contents = g.W.Write.contents in
    let log = g.W.Sink.log in
    let writer = c.args.writer.now in
    let writer' = c.write_text.new.writer in
    let Front : List ℕ → Type 0 = λ t. WrittenFront (contents writer) (contents writer') (log writer) (log writer') t c.in-Err-write_text.e in
    (take c.in-Ok.size c.read_input.new.buf, front, text_is Front _ _ _ _ read.bound c.answer-length.ensures.buf_after c.in-Err-write_text.ensures.err)

pub returns-in-Err-write_text-clause-succeeds : goal.returns-in-Err-write_text-clause-succeeds
returns-in-Err-write_text-clause-succeeds g c =
    let read = c.in-Ok.ensures in
    let reader = c.args.reader.now in
    let reader' = c.read_input.new.reader in
    let front =
    front_of (g.R.Read.remaining reader) (g.R.Read.remaining reader') (g.R.Source.log reader) (g.R.Source.log reader') c.in-Ok.size c.read_input.new.buf
    (omega arith) read.bound read.bytes read.end read.reads in
    let before = g.W.Sink.room c.args.writer.now in
    let after = g.W.Sink.room c.write_text.new.writer in
    let Fits : List ℕ → Type 0 = λ t. length t ≤ before → (false ≡ true) × (before ≤ after + length t) in
    λ steady few_reads few_writes. read_is_front (λ t rest. Fits t) _ _ _ _ _ front
    (text_is Fits _ _ _ _ read.bound c.answer-length.ensures.buf_after (λ fits. c.in-Err-write_text.ensures.room fits few_writes))

pub returns-in-Err-write_text-clause-output_good : goal.returns-in-Err-write_text-clause-output_good
returns-in-Err-write_text-clause-output_good g c =
    let read = c.in-Ok.ensures in
    let reader = c.args.reader.now in
    let reader' = c.read_input.new.reader in
    let front =
    front_of (g.R.Read.remaining reader) (g.R.Read.remaining reader') (g.R.Source.log reader) (g.R.Source.log reader') c.in-Ok.size c.read_input.new.buf
    (omega arith) read.bound read.bytes read.end read.reads in
    let Fits : List ℕ → Type 0 = λ t. length t ≤ g.W.Sink.room c.args.writer.now → ⊥ in
    λ few_writes. read_is_front (λ t rest. Fits t) _ _ _ _ _ front
    (text_is Fits _ _ _ _ read.bound c.answer-length.ensures.buf_after (λ fits. let no = (c.in-Err-write_text.ensures.room fits few_writes).0 in cc))

pub returns-in-Err-clause-stopped : goal.returns-in-Err-clause-stopped
returns-in-Err-clause-stopped g c =
    Keeps-refl (g.W.Write.contents c.args.writer.now)

pub returns-in-Err-clause-any_reader : goal.returns-in-Err-clause-any_reader
returns-in-Err-clause-any_reader g c =
    c.in-Err.ensures.fails (omega arith)

pub returns-in-Err-clause-output_good : goal.returns-in-Err-clause-output_good
returns-in-Err-clause-output_good g c =
    λ few_writes. of_any (λ sheet. length (either_program sheet) ≤ g.W.Sink.room c.args.writer.now → ⊤) _ (λ sheet fits. tt)
