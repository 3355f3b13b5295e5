use Rattle.std.proofs.Common.{rules, ◌≡◌, map, string_bytes, Global, refl, ap, subst}
use Rattle.std.specs.Prelude.{Err}
use Rattle.std.specs.Io.KnownBytes.{Appends}
use Rattle.pipe_io.specs.Causes.{AppendsFront}
use Rattle.mir_text.specs.Text.{text}
use Rattle.crate_gen.specs.Made.{made_crate}
use Rattle.pipe_words.specs.declared.command.Command.TheVariants.{Gen}
use Rattle.pipe_words.proofs.Fitting.{no_misfit}
use Rattle.mirpipe_cli.specs.Refused.{OfInput}
use Rattle.mirpipe_cli.specs.Answer.{done, refused, word_fault, Refuses}
use Rattle.mirpipe_cli.specs.Output.{bytes_of}
use Rattle.mirpipe_cli.proofs.Answering.{appends_none, answers_word, answers_done, answers_refused, says_seq, says_gen, can_be_done}
use Rattle.mirpipe_cli.proofs.run.run_quiet.Goals as goal

pub work-requires : goal.work-requires
work-requires g c = record { can = can_be_done (map (string_bytes {Z = Global}) c.args.words.now) c.in-Ok.command c.in-Ok.ensures.says }

pub returns-in-Bad-clause-told : goal.returns-in-Bad-clause-told
returns-in-Bad-clause-told g c = λ input left calm quiet other.
    (word_fault c.in-Bad.place, answers_word (map (string_bytes {Z = Global}) c.args.words.now) input c.in-Bad.place (c.in-Err.ensures.misfit c.in-Bad.place (ap Err c.in-Bad.is)), refl, appends_none _, c.note_word.ensures.line)

pub returns-in-Bad-clause-unread_ends : goal.returns-in-Bad-clause-unread_ends
returns-in-Bad-clause-unread_ends g c = λ made.
    absurd (no_misfit (map (string_bytes {Z = Global}) c.args.words.now) (Gen made.0 made.1) c.in-Bad.place made.2 (c.in-Err.ensures.misfit c.in-Bad.place (ap Err c.in-Bad.is)))

pub returns-in-Ok-write-clause-words : goal.returns-in-Ok-write-clause-words
returns-in-Ok-write-clause-words g c = λ place misfit. absurd (no_misfit (map (string_bytes {Z = Global}) c.args.words.now) c.in-Ok.command place c.in-Ok.ensures.says misfit)

pub returns-in-Ok-work-clause-words : goal.returns-in-Ok-work-clause-words
returns-in-Ok-work-clause-words g c = λ place misfit. absurd (no_misfit (map (string_bytes {Z = Global}) c.args.words.now) c.in-Ok.command place c.in-Ok.ensures.says misfit)

pub returns-in-Ok-write-clause-told : goal.returns-in-Ok-write-clause-told
returns-in-Ok-write-clause-told g c = λ input left calm quiet other.
    let bytes = bytes_of c.in-Ok-work.output in
    let whole : Appends (g.K.Sink.written c.args.out.now) (g.K.Sink.written c.write.new.out) bytes = search rules in (
      done bytes,
      answers_done (map (string_bytes {Z = Global}) c.args.words.now) input bytes c.in-Ok.command c.in-Ok.ensures.says (c.in-Ok-work.ensures.writes input left),
      refl,
      whole,
      λ calm. appends_none _,
    )

pub returns-in-Ok-write-clause-printed : goal.returns-in-Ok-write-clause-printed
returns-in-Ok-write-clause-printed g c = λ input left says ended.
    let bytes = bytes_of c.in-Ok-work.output in
    let whole : Appends (g.K.Sink.written c.args.out.now) (g.K.Sink.written c.write.new.out) bytes = search rules in
    let is_seq = says_seq (map (string_bytes {Z = Global}) c.args.words.now) c.in-Ok.command says c.in-Ok.ensures.says in
    (bytes, c.in-Ok-work.ensures.refines input left is_seq, whole)

pub returns-in-Ok-work-clause-front : goal.returns-in-Ok-work-clause-front
returns-in-Ok-work-clause-front g c = λ input left stopped.
    let bytes = bytes_of c.in-Ok-work.output in
    (done bytes, answers_done (map (string_bytes {Z = Global}) c.args.words.now) input bytes c.in-Ok.command c.in-Ok.ensures.says (c.in-Ok-work.ensures.writes input left), c.write.ensures.front)

pub returns-in-Ok-write-clause-made : goal.returns-in-Ok-write-clause-made
returns-in-Ok-write-clause-made g c = λ start functions says ended.
    let bytes = bytes_of c.in-Ok-work.output in
    let whole : Appends (g.K.Sink.written c.args.out.now) (g.K.Sink.written c.write.new.out) bytes = search rules in
    let is_gen = says_gen (map (string_bytes {Z = Global}) c.args.words.now) start functions c.in-Ok.command says c.in-Ok.ensures.says in
    let same : bytes ≡ text (made_crate start functions) = c.in-Ok-work.ensures.made start functions is_gen in
    subst (λ b. Appends (g.K.Sink.written c.args.out.now) (g.K.Sink.written c.write.new.out) b) same whole

pub returns-in-Ok-work-clause-made_front : goal.returns-in-Ok-work-clause-made_front
returns-in-Ok-work-clause-made_front g c = λ start functions says stopped.
    let bytes = bytes_of c.in-Ok-work.output in
    let is_gen = says_gen (map (string_bytes {Z = Global}) c.args.words.now) start functions c.in-Ok.command says c.in-Ok.ensures.says in
    let same : bytes ≡ text (made_crate start functions) = c.in-Ok-work.ensures.made start functions is_gen in
    subst (λ b. AppendsFront (g.K.Sink.written c.args.out.now) (g.K.Sink.written c.write.new.out) b) same c.write.ensures.front

pub returns-in-Err-Input-clause-told : goal.returns-in-Err-Input-clause-told
returns-in-Err-Input-clause-told g c = λ input left calm quiet other.
    let refuses = subst (OfInput (Refuses c.in-Ok.command input)) c.in-Err-Input.field-0-is (c.in-Err-Input.ensures.refused input left) in
    (refused _, answers_refused (map (string_bytes {Z = Global}) c.args.words.now) input c.in-Ok.command _ c.in-Ok.ensures.says refuses, refl, appends_none _, c.note_fault.ensures.line)
