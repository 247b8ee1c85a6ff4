-- Each test stands for one reason.
use Rattle.std.proofs.Common.{◌≡◌, true, false, ltb, length, arith}
use Rattle.std.proofs.lemmas.Bool.Decides.{nat_tests}
use Rattle.translator.specs.Translation.{long, few_tokens, few_records}
use Rattle.translator.proofs.translation.check_sizes.Goals as goal

pub returns-then-source-gt-SOURCE_LIMIT : goal.returns-then-source-gt-SOURCE_LIMIT
returns-then-source-gt-SOURCE_LIMIT c =
    let a : ltb 16384 (length c.args.source.now) ≡ true = grind (arith, nat_tests) in rw c.into.ensures (long c.if-source-gt-SOURCE_LIMIT.true, rw a)

pub returns-then-tokens-lt-TOKEN_LIMIT : goal.returns-then-tokens-lt-TOKEN_LIMIT
returns-then-tokens-lt-TOKEN_LIMIT c =
    let a : ltb 16384 (length c.args.source.now) ≡ false = grind (arith, nat_tests) in
    let b : ltb (length c.args.tokens.now) 1024 ≡ true = grind (arith, nat_tests) in rw c.into-then-tokens-lt-TOKEN_LIMIT.ensures (few_tokens c.if-source-gt-SOURCE_LIMIT.false c.if-tokens-lt-TOKEN_LIMIT.true, rw (a, b))

pub returns-then-code-lt-CODE_LIMIT : goal.returns-then-code-lt-CODE_LIMIT
returns-then-code-lt-CODE_LIMIT c =
    let a : ltb 16384 (length c.args.source.now) ≡ false = grind (arith, nat_tests) in
    let b : ltb (length c.args.tokens.now) 1024 ≡ false = grind (arith, nat_tests) in
    let d : ltb (length c.args.code.now) 4096 ≡ true = grind (arith, nat_tests) in
    rw c.into-then-code-lt-CODE_LIMIT.ensures (few_records c.if-source-gt-SOURCE_LIMIT.false c.if-tokens-lt-TOKEN_LIMIT.false c.if-code-lt-CODE_LIMIT.true, rw (a, b, d))
