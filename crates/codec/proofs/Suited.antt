-- The limits of the operations and of the program suit the theorems, and the program's are no larger.
use native.Mathlib.Omega.{arith}
use Rattle.model.specs.Limits.{limits, print_limits}
use Rattle.codec.specs.Limits.{Suitable, NoLarger}

pub suitable : Suitable limits
suitable = record { stations = omega arith; events = omega arith; messages = omega arith; questions = omega arith; list = omega arith; bytes = omega arith }

pub print_suitable : Suitable print_limits
print_suitable = record { stations = omega arith; events = omega arith; messages = omega arith; questions = omega arith; list = omega arith; bytes = omega arith }

pub same_within : NoLarger limits limits
same_within = record { stations = omega arith; events = omega arith; messages = omega arith; questions = omega arith; bytes = omega arith; list = omega arith }

pub print_within : NoLarger print_limits limits
print_within = record { stations = omega arith; events = omega arith; messages = omega arith; questions = omega arith; bytes = omega arith; list = omega arith }
