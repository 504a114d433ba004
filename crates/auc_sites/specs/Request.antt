-- Requests: which are one, and which was made before another.
use Rattle.std.specs.Prelude.{◌&&◌, ◌||◌, ◌==◌, nat_lt, Bool}
use Rattle.auc_sites.specs.declared.request.Request.{Request}

-- whether two requests are one
abbrev pub same_request : Request → Request → Bool
same_request a b = (a.site == b.site) && (a.boot == b.boot) && (a.ask == b.ask)

-- whether a request was made before another one of its site: under a lower boot number, or under the same one and earlier
abbrev pub is_before : Request → Request → Bool
is_before a b = nat_lt a.boot b.boot || ((a.boot == b.boot) && nat_lt a.ask b.ask)
