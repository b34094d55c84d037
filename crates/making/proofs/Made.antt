-- Each way makes a region: what was built, read or edited in any list is `IsMade`.
use Rattle.edit_theorem.proofs.Made.{edits_made}
use Rattle.region.specs.declared.Region.{Region}
use Rattle.region.specs.Made.{IsMade}
use Rattle.region.specs.View.{view_of}
use Rattle.region.proofs.Building.{built_view}
use Rattle.region.proofs.Made.{build_made}
use Rattle.region_file.proofs.Made.{read_made}
use Rattle.making.specs.Made.{Made, built, read, edited}

pub is_made : (r : Region) → Made r → IsMade (view_of r)
is_made r (built points count rule b d h e) = build_made points count rule (view_of b.region) d (built_view _ b h e)
is_made r (read s b h e) = read_made s (view_of b.region) (built_view _ b h e)
is_made r (edited s last es m d run) = edits_made s last es (is_made s m) d run
