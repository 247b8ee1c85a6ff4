use Rattle.std.proofs.Common.{◌≡◌, pos, refl, w32, SFits, rules}
use Rattle.std.specs.Int.{int_wrap}
use Rattle.std.proofs.lemmas.Int.{to_z-of_z}
use Rattle.machine.specs.Codes.{columns, rows}
use Rattle.machine.specs.Operations.{answer}
use Rattle.machine.specs.Views.{store_of}
use Rattle.machine.proofs.Stepping.{moved_is, asked_is}
use Rattle.machine.proofs.memory.Memory.perform.Goals as goal

pub returns-in-Push : goal.returns-in-Push
returns-in-Push g c = λ p.
    let f : SFits w32 c.args.operand = c.ranges.operand in
    rw c.in-Push.is (moved_is _ _ _ p _ _ _ _ _ _ (simp to_z-of_z at c.push.ensures))

pub returns-in-Load : goal.returns-in-Load
returns-in-Load g c = λ p.
    let f : SFits w32 c.args.operand = c.ranges.operand in
    rw c.in-Load.is (moved_is _ _ _ p _ _ _ _ _ _ (simp to_z-of_z at c.load.ensures))

pub returns-in-Store : goal.returns-in-Store
returns-in-Store g c = λ p.
    let f : SFits w32 c.args.operand = c.ranges.operand in
    rw c.in-Store.is (moved_is _ _ _ p _ _ _ _ _ _ (simp to_z-of_z at c.store.ensures))

pub returns-in-Pop : goal.returns-in-Pop
returns-in-Pop g c = λ p. rw c.in-Pop.is (moved_is _ _ _ p _ _ _ _ _ _ c.discard.ensures)

pub returns-in-Add : goal.returns-in-Add
returns-in-Add g c = λ p. rw c.in-Add.is (moved_is _ _ _ p _ _ _ _ _ _ c.binary.ensures)

pub returns-in-Subtract : goal.returns-in-Subtract
returns-in-Subtract g c = λ p. rw c.in-Subtract.is (moved_is _ _ _ p _ _ _ _ _ _ c.binary-in-Subtract.ensures)

pub returns-in-Multiply : goal.returns-in-Multiply
returns-in-Multiply g c = λ p. rw c.in-Multiply.is (moved_is _ _ _ p _ _ _ _ _ _ c.binary-in-Multiply.ensures)

pub returns-in-Divide : goal.returns-in-Divide
returns-in-Divide g c = λ p. rw c.in-Divide.is (moved_is _ _ _ p _ _ _ _ _ _ c.binary-in-Divide.ensures)

pub returns-in-Remainder : goal.returns-in-Remainder
returns-in-Remainder g c = λ p. rw c.in-Remainder.is (moved_is _ _ _ p _ _ _ _ _ _ c.binary-in-Remainder.ensures)

pub returns-in-Low : goal.returns-in-Low
returns-in-Low g c = λ p. rw c.in-Low.is (moved_is _ _ _ p _ _ _ _ _ _ c.unary.ensures)

pub returns-in-Less : goal.returns-in-Less
returns-in-Less g c = λ p. rw c.in-Less.is (moved_is _ _ _ p _ _ _ _ _ _ c.binary-in-Less.ensures)

pub returns-in-Greater : goal.returns-in-Greater
returns-in-Greater g c = λ p. rw c.in-Greater.is (moved_is _ _ _ p _ _ _ _ _ _ c.binary-in-Greater.ensures)

pub returns-in-Equal : goal.returns-in-Equal
returns-in-Equal g c = λ p. rw c.in-Equal.is (moved_is _ _ _ p _ _ _ _ _ _ c.binary-in-Equal.ensures)

pub returns-in-Not : goal.returns-in-Not
returns-in-Not g c = λ p. rw c.in-Not.is (moved_is _ _ _ p _ _ _ _ _ _ c.unary-in-Not.ensures)

pub returns-in-Jump : goal.returns-in-Jump
returns-in-Jump g c = λ p.
    let f : SFits w32 c.args.operand = c.ranges.operand in
    rw c.in-Jump.is (simp to_z-of_z at (c.jump.ensures c.args.self.now c.args.at.now.height (g.B.Board.meaning c.args.board.now)))

pub returns-in-JumpIfZero : goal.returns-in-JumpIfZero
returns-in-JumpIfZero g c = λ p.
    let f : SFits w32 c.args.operand = c.ranges.operand in
    rw c.in-JumpIfZero.is (simp to_z-of_z at (c.jump_if_zero.ensures (g.B.Board.meaning c.args.board.now) p))

pub returns-in-Tick : goal.returns-in-Tick
returns-in-Tick g c = λ p. rw c.in-Tick.is (c.tick.ensures c.args.self.now (g.B.Board.meaning c.args.board.now) c.args.from p)

pub returns-in-Zone : goal.returns-in-Zone
returns-in-Zone g c = λ p. rw c.in-Zone.is (asked_is _ _ _ p _ _ _ _ _ _ c.zone.ensures)

pub returns-in-Columns : goal.returns-in-Columns
returns-in-Columns g c = λ p.
    let b = g.B.Board.meaning c.args.board.now in
    let n : c.signed.result ≡ int_wrap w32 (pos b.columns) = search rules in
    let f : SFits w32 c.signed.result = search rules in
    let w = simp to_z-of_z at c.push-in-Columns.ensures in
    rw c.in-Columns.is (asked_is _ _ _ p _ _ _ _ (answer columns (store_of c.args.self.now c.args.at.now.height) b) _ (record { moves = rw n at w; board = refl }))

pub returns-in-Rows : goal.returns-in-Rows
returns-in-Rows g c = λ p.
    let b = g.B.Board.meaning c.args.board.now in
    let n : c.signed-in-Rows.result ≡ int_wrap w32 (pos b.rows) = search rules in
    let f : SFits w32 c.signed-in-Rows.result = search rules in
    let w = simp to_z-of_z at c.push-in-Rows.ensures in
    rw c.in-Rows.is (asked_is _ _ _ p _ _ _ _ (answer rows (store_of c.args.self.now c.args.at.now.height) b) _ (record { moves = rw n at w; board = refl }))

pub returns-in-Report : goal.returns-in-Report
returns-in-Report g c = λ p. rw c.in-Report.is (asked_is _ _ _ p _ _ _ _ _ _ c.report.ensures)

pub returns-in-Return : goal.returns-in-Return
returns-in-Return g c = λ p. rw c.in-Return.is (moved_is _ _ _ p _ _ _ _ _ _ c.give.ensures)
