use Rattle.boards.proofs.Crops.{crop_of_crop}
use Rattle.boards.proofs.window.Window.through.Goals as goal

pub returns-in_err-left-clause-law : goal.returns-in_err-left-clause-law
returns-in_err-left-clause-law c = crop_of_crop _ _

pub returns-in_err-top-clause-law : goal.returns-in_err-top-clause-law
returns-in_err-top-clause-law c = crop_of_crop _ _

pub returns-clause-law : goal.returns-clause-law
returns-clause-law c = crop_of_crop _ _
