-- Schemas in which the tables of the store stand first, whatever else is there.
use Rattle.std.proofs.Common.{◌≡◌, ◌&&◌, ℕ, Bool, true, false, cond, List, [], ◌∷◌, drop, None, Option, Some, refl, ap}
use Rattle.std.specs.List.{filter_map, flat_map}
use Rattle.sqlite.specs.Order.{Row}
use Rattle.sqlite.specs.Schema.{Schema}
use Rattle.sqlite.specs.Table.{Table}
use Rattle.sqlite_schema.specs.Rules.{ParentKey, parent_key}
use Rattle.sqlite_schema.specs.declared.schema.Index.{Index}
use Rattle.sqlite_schema.specs.declared.schema.Keys.{Keys}
use Rattle.sqlite_schema.specs.declared.schema.Reference.{Reference}
use Rattle.sqlite_schema.specs.declared.schema.View.{View}
use Rattle.sqlite_rules.specs.Action.{deed_for, work_by, work_for, works}
use Rattle.sqlite_rules.specs.declared.action.Deed.{Deed}
use Rattle.pr_keep_sql.specs.private.Tables.{HasOursFirst, kept, version}

abbrev pub ours : List Table → List Index → List View → Schema
ours others indexes views = record { tables = kept ∷ version ∷ others; indexes = indexes; views = views }

pub is_ours : (schema : Schema) → HasOursFirst schema → schema ≡ ours (drop 2 schema.tables) schema.indexes schema.views
is_ours schema has = ap (λ (tables : List Table). record { tables = tables; indexes = schema.indexes; views = schema.views }) has

-- ---- foreign keys: where no row is taken out, no action follows
cut : {X : Type 0} (b : Bool) (x : X) → cond (b && false) (Some x) None ≡ None
cut true x = refl
cut false x = refl

no_work : (depth tree : ℕ) (child : Table) (ref : Reference) (deed : Option Deed) (key : Option ParentKey) → work_by depth tree [] child ref deed key ≡ None
no_work depth tree child ref None key = refl
no_work depth tree child ref (Some deed) None = refl
no_work depth tree child ref (Some deed) (Some key) = cut _ _

no_works_of : (schema : Schema) (keys : Keys) (tree : ℕ) (news : List Row) (child : Table) (refs : List Reference) → filter_map (work_for schema keys 0 tree [] news child) refs ≡ []
no_works_of schema keys tree news child [] = refl
no_works_of schema keys tree news child (ref ∷ refs) = rw (no_work 0 tree child ref (deed_for keys _ ref) (parent_key schema.tables ref)) (no_works_of schema keys tree news child refs)

no_works_from : (schema : Schema) (keys : Keys) (tree : ℕ) (news : List Row) (tables : List Table) → flat_map (λ child. filter_map (work_for schema keys 0 tree [] news child) child.references) tables ≡ []
no_works_from schema keys tree news [] = refl
no_works_from schema keys tree news (child ∷ tables) = rw (no_works_of schema keys tree news child child.references) (no_works_from schema keys tree news tables)

pub no_works : (schema : Schema) (keys : Keys) (tree : ℕ) (news : List Row) → works schema keys 0 tree [] news ≡ []
no_works schema keys tree news = no_works_from schema keys tree news schema.tables
