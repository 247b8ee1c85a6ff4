use Rattle.std.proofs.Common.{sym, ap, ◌∙◌}
use Rattle.std.specs.Option.{option_map}
use Rattle.lexer.specs.Reading.{text_of}
use Rattle.lexer.proofs.Filling.{text_past, text_there}
use Rattle.lexer.proofs.list.text.Goals as goal

pub returns-in_err-get : goal.returns-in_err-get
returns-in_err-get c =
    ap (option_map (λ x. x.now)) c.from_residual.ensures
    ∙ sym (text_past c.args.source.now c.args.tokens.now c.args.k c.in_err-get.ensures.lookup.3)

pub returns : goal.returns
returns c =
    let l = c.in_ok-get.ensures.lookup in
    c.part.ensures
    ∙ ap (text_of c.args.source.now) l.1
    ∙ sym (text_there c.args.source.now c.args.tokens.now c.args.k c.in_ok-get.field-0.now l.3.0)
