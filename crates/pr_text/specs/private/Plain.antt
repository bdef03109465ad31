-- Orders that are events name no files. Private contracts cite this: a reader can pass it over.
use Rattle.pr_text.specs.declared.script.order.Order.{Order}
use Rattle.pr_text.specs.declared.script.order.Order.TheVariants as order
use Rattle.spec_world.specs.declared.event.Event.{Event}
use Rattle.spec_world.specs.declared.event.Event.TheVariants.{Add, Query, Scrape, Fail, Gone, Eval, Reload, Restart, Alerts}

-- it is no reload, which alone has files
abbrev pub HasNoFiles : Event → Type 0
HasNoFiles (Add time labels point) = Unit {0}
HasNoFiles (Query time text) = Unit {0}
HasNoFiles (Scrape time target body) = Unit {0}
HasNoFiles (Fail time target) = Unit {0}
HasNoFiles (Gone time target) = Unit {0}
HasNoFiles (Eval time file group) = Unit {0}
HasNoFiles (Reload time files) = ⊥
HasNoFiles (Restart time) = Unit {0}
HasNoFiles (Alerts time) = Unit {0}

-- the files of a reload are named by the order, and loaded later
abbrev pub IsPlain : Order → Type 0
IsPlain (order.Event event) = HasNoFiles event
IsPlain (order.Reload time files) = Unit {0}
IsPlain (order.Receiver name) = Unit {0}
IsPlain (order.Flush name) = Unit {0}
IsPlain order.Bad = Unit {0}
