-- Scripts with known results, from their bytes through tokens, tree, check and run.
use Rattle.std.specs.Prelude.{◌≡◌, ℕ, List, pos, negsuc, codes}
use Rattle.boards.specs.Meaning.{Meaning}
use Rattle.meaning.specs.Trees.{Script}
use Rattle.meaning.specs.Run.{Ending, returned, waiting, divided, run_script}
use Rattle.meaning.specs.Sources.{Means, Refuses, Unfinished}

-- the source means a script that comes to this on every board, with this number of ticks
pub record ComesTo (source : List ℕ) (ticks : ℕ) (e : Ending) (place spent : ℕ) : Type 0 where
  pub script : Script
  pub means : Means source script
  pub comes : (b : Meaning) → run_script script b ticks ≡ record { ending = e; place = place; spent = spent; board = b }

-- the nine results
pub record KnownResults : Type 0 where
  -- the empty source ends early, at 0
  pub nothing : Unfinished (codes "")
  -- sums wrap
  pub wraps : ComesTo (codes "int main(){return 2147483647+1;}") 0 (returned (negsuc 2147483647)) 11 0
  -- a zero divisor ends the run at the operator
  pub divides : ComesTo (codes "int main(){return 1/0;}") 0 divided 19 0
  -- an endless loop spends its ticks, and waits at its keyword
  pub waits : ComesTo (codes "int main(){while(true){}}") 5 waiting 11 5
  -- one name twice in a level
  pub twice : Refuses (codes "int main(){int i=1;int i=2;}") 12 23
  -- an initializer is read before its own name is in force
  pub outer : ComesTo (codes "int i=2;int main(){int i=i;return i;}") 0 (returned (pos 2)) 27 0
  -- types do not mix
  pub mixed : Refuses (codes "int main(){return 1+true;}") 15 19
  -- chars wrap at 8 bits
  pub narrow : ComesTo (codes "int main(){char c='a';c+=c;if(c<'\\0')return 1;}") 0 (returned (pos 1)) 37 0
  -- a `for` of three rounds compares four times; `continue` does not skip the adding
  pub counts : ComesTo (codes "int main(){for(int i=0 to 3)continue;}") 1000 (returned (pos 0)) 37 4
