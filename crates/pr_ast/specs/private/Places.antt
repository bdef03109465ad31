-- Trees without their places.
use Rattle.std.specs.Prelude.{◌≡◌}
use Rattle.pr_ast.specs.declared.place.Place.{Place}
use Rattle.pr_ast.specs.Tree.{Tree, number, text, select, range, sub, neg, binary, call, aggregate, none, more}

abbrev pub nowhere : Place
nowhere = record { start = 0; end = 0 }

-- the tree with the same place at every node
abbrev pub forget : Tree → Tree
forget (number p v) = number nowhere v
forget (text p t) = text nowhere t
forget (select p s) = select nowhere s
forget (range p s span) = range nowhere s span
forget (sub p t span step offset) = sub nowhere (forget t) span step offset
forget (neg p t) = neg nowhere (forget t)
forget (binary p o b m l r) = binary nowhere o b m (forget l) (forget r)
forget (call p f ts) = call nowhere f (forget ts)
forget (aggregate p o g ts) = aggregate nowhere o g (forget ts)
forget none = none
forget (more ts t) = more (forget ts) (forget t)

-- Two trees are the same but for places.
abbrev pub IsSameButPlaces : Tree → Tree → Type 0
IsSameButPlaces t u = forget t ≡ forget u
