-- Whether two types are equal, as code tests it.
use Rattle.std.proofs.Common.{◌≡◌, not, refl}
use Rattle.meaning.specs.Types.{same_type}
use Rattle.meaning.specs.declared.operator.Scalar.{Scalar}
use Rattle.meaning.specs.declared.operator.Scalar.TheVariants.{Bool as bool, Char as char, Int as int}

-- what `==` of two types gives
pub same_scalar : (s t : Scalar) → Rattle.meaning.specs.contracts.operator.ScalarPartialEq.TheImpl.eq-value.it s t ≡ same_type s t
same_scalar bool bool = refl
same_scalar bool char = refl
same_scalar bool int = refl
same_scalar char bool = refl
same_scalar char char = refl
same_scalar char int = refl
same_scalar int bool = refl
same_scalar int char = refl
same_scalar int int = refl

-- and what `!=` gives
pub other_scalar : (s t : Scalar) → not (not (Rattle.meaning.specs.contracts.operator.ScalarPartialEq.TheImpl.eq-value.it s t)) ≡ same_type s t
other_scalar bool bool = refl
other_scalar bool char = refl
other_scalar bool int = refl
other_scalar char bool = refl
other_scalar char char = refl
other_scalar char int = refl
other_scalar int bool = refl
other_scalar int char = refl
other_scalar int int = refl
