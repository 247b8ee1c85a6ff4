-- What the grammar takes is compiled.
use Rattle.translator.proofs.translation.compile.Goals as goal

pub returns : goal.returns
returns c =
    let v = c.in_ok-parse.ensures.verdict in
    c.compile_script.ensures v.0 v.1
