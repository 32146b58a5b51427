pub mod RouteOrder
