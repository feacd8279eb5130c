-- When an instance is valid: what the rules of its kind say of it.
use Rattle.std.specs.Prelude.{Bool}
use Rattle.decision_model.specs.declared.instance.Instance.{Instance}
use Rattle.decision_model.specs.Kind.{rules_of}

-- each number in its range, each list with its length and shape
abbrev pub IsReadable : Instance → Type 0
IsReadable instance = (rules_of instance).readable

-- a grid, where there is one, is small enough
abbrev pub GridFits : Instance → Type 0
GridFits instance = (rules_of instance).grid

abbrev pub grid_fits : Instance → Bool
grid_fits instance = (rules_of instance).grid_test

-- a width number, where there is one, is small enough
abbrev pub WidthFits : Instance → Type 0
WidthFits instance = (rules_of instance).width

abbrev pub width_fits : Instance → Bool
width_fits instance = (rules_of instance).width_test

-- all rules but that on the width number
abbrev pub IsRegular : Instance → Type 0
IsRegular instance = (rules_of instance).regular

-- all rules
abbrev pub IsValid : Instance → Type 0
IsValid instance = (rules_of instance).valid
