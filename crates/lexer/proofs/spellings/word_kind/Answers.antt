-- Each turn takes one keyword off the list that is left.
use Rattle.std.proofs.Common.{◌≡◌, false, get_or, sym, ap, ◌∙◌}
use Rattle.std.specs.Str.{bytes_eq}
use Rattle.std.proofs.lemmas.List.{at_drop_more}
use Rattle.std.proofs.lemmas.Bool.{cond-false}
use Rattle.lexer.specs.declared.kind.Kind.TheVariants.{Name}
use Rattle.lexer.specs.Spelling.{keywords, spelling_of, word_kind_in}
use Rattle.lexer.proofs.spellings.word_kind.Goals as goal

pub loop-keyword-preserved : goal.loop-keyword-preserved
loop-keyword-preserved c =
    let w = c.args.word.now in
    let i = c.loop-keyword.keyword-index in
    let failed : bytes_eq w (spelling_of (get_or keywords i Name)) ≡ false = ap (bytes_eq w) (sym c.spelling.ensures) ∙ sym c.eq.ensures ∙ c.if-eq.false in
    c.loop-keyword.invariant ∙ at_drop_more (λ ks. word_kind_in ks w) keywords i Name c.loop-keyword-test.true ∙ cond-false _ _ _ failed
