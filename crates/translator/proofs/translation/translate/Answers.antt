-- Each way out is one answer.
use Rattle.std.proofs.Common.{◌≤◌, length, refl, ◌∙◌, arith, rules}
use Rattle.std.proofs.lemmas.Result.{err_from_is_err_and}
use Rattle.translator.specs.Translation.{unread}
use Rattle.translator.proofs.Telling.{one_answer, list_is, fault_is, read_whole, tokens_few, taken, refused_late}
use Rattle.translator.proofs.translation.translate.Goals as goal

pub returns-in_err-check_sizes : goal.returns-in_err-check_sizes
returns-in_err-check_sizes c =
    let p = err_from_is_err_and c.from_residual.result c.from_residual.ensures.1 in
    rw (p.1, p.2) (record { answer = (refl, c.in_err-check_sizes.ensures.0); list = c.in_err-check_sizes.ensures.1; only = one_answer })

pub returns-in_err-count : goal.returns-in_err-count
returns-in_err-count c =
    let p = err_from_is_err_and c.from_residual-in_err-count.result c.from_residual-in_err-count.ensures.1 in
    let s = c.args.source.now in
    let list = c.args.tokens.now in
    let slots = length c.args.code.now in
    let z = c.in_ok-check_sizes.ensures in
    rw (p.1, p.2) (record {
      answer = (refl, unread z (fault_is s list slots z _ _ c.in_err-count.ensures.answer));
      list = c.read.ensures.list ∙ list_is s list slots z;
      only = one_answer;
    })

pub slice_bounds-compile-end : goal.slice_bounds-compile-end
slice_bounds-compile-end c =
    let s = c.args.source.now in
    let list = c.args.tokens.now in
    let slots = length c.args.code.now in
    let z = c.in_ok-check_sizes.ensures in
    let w = read_whole s list slots z c.in_ok-count.count c.in_ok-count.ensures.answer in
    let f = tokens_few s c.read.ensures.decided in
    let t = z.tokens in
    let l : c.in_ok-count.count ≤ length list = omega arith in
    search rules

pub returns-in_err-records : goal.returns-in_err-records
returns-in_err-records c =
    let p = err_from_is_err_and c.from_residual-in_err-records.result c.from_residual-in_err-records.ensures.1 in
    let s = c.args.source.now in
    let list = c.args.tokens.now in
    let z = c.in_ok-check_sizes.ensures in
    rw (p.1, p.2) (record {
      answer =
          refused_late s list c.read.new.tokens c.args.code.now c.compile.new.code z c.read.ensures.decided c.in_ok-count.count c.in_ok-count.ensures.answer
          c.read.ensures.list c.in_err-records.field-0.0 c.in_err-records.ensures;
      list = c.read.ensures.list ∙ list_is s list (length c.args.code.now) z;
      only = one_answer;
    })

pub returns : goal.returns
returns c =
    let s = c.args.source.now in
    let list = c.args.tokens.now in
    let z = c.in_ok-check_sizes.ensures in
    record {
      answer =
          taken s list c.read.new.tokens c.args.code.now c.compile.new.code z c.read.ensures.decided c.in_ok-count.count c.in_ok-count.ensures.answer
          c.read.ensures.list c.in_ok-records.records c.in_ok-records.ensures;
      list = c.read.ensures.list ∙ list_is s list (length c.args.code.now) z;
      only = one_answer;
    }
