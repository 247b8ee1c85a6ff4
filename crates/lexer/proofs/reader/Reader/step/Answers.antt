use Rattle.std.proofs.Common.{◌≡◌, true, false, sym, [], ◌∷◌, rules}
use Rattle.lexer.specs.declared.class.Class.TheVariants.{Blank, Mark}
use Rattle.lexer.specs.Spelling.{begins}
use Rattle.lexer.proofs.Ahead.{left, went, stayed, begun, not_begun, blank_front, line_opens, long_opens, line_ends, line_goes_on, long_closes, long_goes_on, mark_begins, solid_begins}
use Rattle.lexer.proofs.reader.Reader.step.Goals.{then-rest-eq42+else-starts_with, else-rest-eq42}
use Rattle.lexer.proofs.reader.Reader.step.Goals as goal

pub returns-in-LineComment-default : goal.returns-in-LineComment-default
returns-in-LineComment-default c =
    let r = c.args.self.now in
    went r _ _ _ 0 c.requires c.in-LineComment-default.is-0 (line_ends r.at (left r) c.if-rest-eq10.true) c.pass.ensures

pub returns-in-LineComment-default-2 : goal.returns-in-LineComment-default-2
returns-in-LineComment-default-2 c =
    let r = c.args.self.now in
    went r _ _ _ 0 c.requires c.in-LineComment-default.is-0 (line_goes_on r.at (left r) c.if-rest-eq10.false) c.pass-in-LineComment-default-2.ensures

pub returns-in-LongComment-default : goal.returns-in-LongComment-default
returns-in-LongComment-default c =
    let r = c.args.self.now in
    let closes = begun (42 ∷ 47 ∷ []) (left r) true c.if-starts_with.ensures.value in
    went r _ _ _ 1 c.requires c.in-LongComment-default.is-0 (long_closes r.at _ (left r) closes) c.pass-in-LongComment-default.ensures

pub returns-in-LongComment-default-2 : goal.returns-in-LongComment-default-2
returns-in-LongComment-default-2 c =
    let r = c.args.self.now in
    let closes : begins (42 ∷ 47 ∷ []) (left r) ≡ false =
    elim c.if-rest-eq42.branch [
      | then-rest-eq42+else-starts_with w ↦ begun (42 ∷ 47 ∷ []) (left r) false w.if-starts_with.ensures.value
      | else-rest-eq42 w ↦ not_begun 42 (47 ∷ []) (left r) w.if-rest-eq42.false
    ] in
    went r _ _ _ 0 c.requires c.in-LongComment-default.is-0 (long_goes_on r.at _ (left r) closes) c.pass-in-LongComment-default-2.ensures

pub returns-in-Code-Blank : goal.returns-in-Code-Blank
returns-in-Code-Blank c =
    let r = c.args.self.now in
    went r _ _ _ 0 c.requires c.in-Code-Blank.is-0 (blank_front r.at (left r) (sym c.in-Code-Blank.ensures)) c.pass-in-Code-Blank.ensures

pub returns-in-Code-Mark : goal.returns-in-Code-Mark
returns-in-Code-Mark c =
    let r = c.args.self.now in
    let line = not_begun 47 (47 ∷ []) (left r) c.if-rest-ne47.true in
    let long = not_begun 47 (42 ∷ []) (left r) c.if-rest-ne47.true in
    stayed r c.in-Code-Mark.is-0 (mark_begins r.at (left r) (sym c.in-Code-Mark.ensures) line long)

pub returns-in-Code-Mark-2 : goal.returns-in-Code-Mark-2
returns-in-Code-Mark-2 c =
    let r = c.args.self.now in
    let line = begun (47 ∷ 47 ∷ []) (left r) true c.if-starts_with-2.ensures.value in
    went r _ _ _ 1 c.requires c.in-Code-Mark.is-0 (line_opens r.at (left r) (sym c.in-Code-Mark.ensures) line) c.pass-in-Code-Mark-2.ensures

pub returns-in-Code-Mark-3 : goal.returns-in-Code-Mark-3
returns-in-Code-Mark-3 c =
    let r = c.args.self.now in
    let line = begun (47 ∷ 47 ∷ []) (left r) false c.if-starts_with-2.ensures.value in
    let long = begun (47 ∷ 42 ∷ []) (left r) true c.if-starts_with-3.ensures.value in
    went r _ _ _ 1 c.requires c.in-Code-Mark.is-0 (long_opens r.at (left r) (sym c.in-Code-Mark.ensures) line long) c.pass-in-Code-Mark-3.ensures

pub returns-in-Code-default : goal.returns-in-Code-default
returns-in-Code-default c =
    let r = c.args.self.now in
    let line = begun (47 ∷ 47 ∷ []) (left r) false c.if-starts_with-2.ensures.value in
    let long = begun (47 ∷ 42 ∷ []) (left r) false c.if-starts_with-3.ensures.value in
    stayed r c.in-Code-Mark.is-0 (mark_begins r.at (left r) (sym c.in-Code-Mark.ensures) line long)

pub returns-in-Code-default-2 : goal.returns-in-Code-default-2
returns-in-Code-default-2 c =
    let r = c.args.self.now in
    let blank : c.class_of.result ≡ Blank → ⊥ = λ e. search rules in
    let mark : c.class_of.result ≡ Mark → ⊥ = λ e. search rules in
    stayed r c.in-Code-default.is-0 (solid_begins _ r.at (left r) c.class_of.ensures blank mark)
